-- `contract::contract_marks` meets its contract: the tables that are lent describe this gate.
-- Assumes nothing.
use mathlib.Core.Path.{refl}
use lib.ListN.{length}
use Rattle.standing.specs.Standing.{standing}
use Rattle.mark_numbers.specs.Marks.{marks_in}
use Rattle.schedule.proofs.Laws.{judged-as}
use Rattle.contract.proofs.Laws.{by-contract}
use Rattle.contract.proofs.contract_marks.Goals as goal

pub returns : goal.returns
returns c = let whole = judged-as
    (by-contract c.contract_forms-forms.ensures c.contract_field_rows-fields.ensures c.contract_field_names-names.ensures refl c.contract_rule_rows-rules.ensures refl refl)
    c.args.scope (standing c.args.a.now c.args.b.now c.args.c.now c.args.stand.now) (length c.args.work.now) (marks_in c.args.kinds.now c.args.places.now c.args.companions.now) c.args.work.now (c.judge_files.ensures.value, (c.judge_files.ensures.board_after, c.judge_files.ensures.work_after)) in record { value = whole.0; board_after = whole.1.0; work_after = whole.1.1 }
