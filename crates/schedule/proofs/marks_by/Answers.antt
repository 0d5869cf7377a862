-- `schedule::marks_by` meets its contract: the constant tables describe the gate by the rules that are lent.
use borrow.Author.Rules.{rules}
use lib.ListN.{length}
use Rattle.standing.specs.Standing.{standing}
use Rattle.mark_numbers.specs.Marks.{marks_in}
use Rattle.schedule.proofs.Laws.{described, judged-as}
use Rattle.schedule.proofs.marks_by.Goals as goal

pub returns : goal.returns
returns c = let whole = judged-as
    (described c.args.rules.now c.file_forms-forms.ensures c.field_rows-fields.ensures c.field_names-names.ensures c.file_type-fixed.ensures c.value_places-values.ensures c.value_texts-texts.ensures)
    c.args.scope (standing c.args.a.now c.args.b.now c.args.c.now c.args.stand.now) (length c.args.work.now) (marks_in c.args.kinds.now c.args.places.now c.args.companions.now) c.args.work.now (c.judge_files.ensures.value, (c.judge_files.ensures.board_after, c.judge_files.ensures.work_after)) in record { value = whole.0; board_after = whole.1.0; work_after = whole.1.1 }
