-- `schedule::reason_by` meets its contract: the constant tables describe the gate by the rules that are lent.
-- Assumes nothing.
use lib.ListN.{length}
use borrow.Author.Rules.{rules}
use Rattle.standing.specs.Standing.{standing, start_standing}
use Rattle.schedule.proofs.Laws.{described, told-as}
use Rattle.schedule.proofs.reason_by.Goals as goal

pub returns : goal.returns
returns c = let whole = told-as
    (described c.args.rules.now c.file_forms-forms.ensures c.field_rows-fields.ensures c.field_names-names.ensures c.file_type-fixed.ensures c.value_places-values.ensures c.value_texts-texts.ensures)
    (start_standing c.args.a.now c.args.b.now c.args.c.now c.args.stand.now) (standing c.args.a.now c.args.b.now c.args.c.now c.args.stand.now) (length c.args.work.now) c.args.mark c.args.work.now (c.reason_files.ensures.value, c.reason_files.ensures.work_after) in record { value = whole.0; work_after = whole.1 }
