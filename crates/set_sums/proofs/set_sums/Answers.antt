-- `set_sums::set_sums` meets its contract: each way out of it is one of the definition.
-- Assumes nothing.
use mathlib.Core.Path.{◌∙◌}
use Rattle.gate.proofs.Laws.{own-judge}
use Rattle.set_sums.proofs.Laws.{too_short, refused-out, unaccepted-out, accepted-in}
use Rattle.set_sums.proofs.set_sums.Goals as goal

pub returns-then-work-lt794702 : goal.returns-then-work-lt794702
returns-then-work-lt794702 c = let out = too_short _ _ c.if-work-lt794702.true in record { value = c.no_sums.ensures ∙ out.0; work_after = out.1 }

pub returns-then-verdict-ne0 : goal.returns-then-verdict-ne0
returns-then-verdict-ne0 c = let out = refused-out _ _ c.if-work-lt794702.false (own-judge c.if-work-lt794702.false _ c.judge_in-verdict.ensures.value) c.judge_in-verdict.ensures.work_after c.if-verdict-ne0.true in record { value = c.no_sums-then-verdict-ne0.ensures ∙ out.0; work_after = out.1 }

pub returns-then-is_accepted : goal.returns-then-is_accepted
returns-then-is_accepted c = let whole = accepted-in _ _ c.if-work-lt794702.false (own-judge c.if-work-lt794702.false _ c.judge_in-verdict.ensures.value) c.judge_in-verdict.ensures.work_after c.if-verdict-ne0.false c.is_accepted.ensures c.if-is_accepted.true c.table_sums.ensures.value c.table_sums.ensures.work_after in record { value = whole.0; work_after = whole.1 }

pub returns : goal.returns
returns c = let out = unaccepted-out _ _ c.if-work-lt794702.false (own-judge c.if-work-lt794702.false _ c.judge_in-verdict.ensures.value) c.judge_in-verdict.ensures.work_after c.is_accepted.ensures c.if-is_accepted.false in record { value = c.no_sums-2.ensures ∙ out.0; work_after = out.1 }
