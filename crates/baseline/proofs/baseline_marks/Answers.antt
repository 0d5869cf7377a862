-- `baseline::baseline_marks` meets its contract: the rules that are lent are the profile's.
-- Assumes nothing.
use lib.ListN.{length}
use Rattle.standing.specs.Standing.{standing}
use Rattle.mark_numbers.specs.Marks.{marks_in}
use Rattle.schedule.proofs.Laws.{judged-as}
use Rattle.baseline.proofs.Laws.{by-baseline}
use Rattle.baseline.proofs.baseline_marks.Goals as goal

pub returns : goal.returns
returns c = let whole = judged-as (by-baseline c.baseline_rows-rules.ensures) c.args.scope (standing c.args.a.now c.args.b.now c.args.c.now c.args.stand.now) (length c.args.work.now) (marks_in c.args.kinds.now c.args.places.now c.args.companions.now) c.args.work.now (c.marks_by.ensures.value, (c.marks_by.ensures.board_after, c.marks_by.ensures.work_after)) in record { value = whole.0; board_after = whole.1.0; work_after = whole.1.1 }
