-- `quarter::take_in` meets its contract: each way out of it is one of the definition.
-- Assumes nothing.
use mathlib.Core.Path.{sym, ◌∙◌}
use Rattle.quarter.proofs.Laws.{too-short-taken, refused-taken, found-near, set-taken}
use Rattle.quarter.proofs.take_in.Goals as goal

pub returns-then-work-lt794702 : goal.returns-then-work-lt794702
returns-then-work-lt794702 c = let out = too-short-taken _ _ _ c.if-work-lt794702.true in record { value = c.refused.ensures ∙ out.0; work_after = out.1 }

pub returns-then-is_refused : goal.returns-then-is_refused
returns-then-is_refused c = let out = refused-taken _ _ _ c.if-work-lt794702.false c.is_refused.ensures c.if-is_refused.true in record { value = c.refused-then-is_refused.ensures ∙ out.0; work_after = out.1 }

pub with_sums-requires : goal.with_sums-requires
with_sums-requires c = record { not_refused = sym c.is_refused.ensures ∙ c.if-is_refused.false; sums_bounded = found-near c.args.q c.args.bundle.now c.args.work.now c.if-work-lt794702.false c.is_refused.ensures c.set_sums-found.ensures.value }

pub returns : goal.returns
returns c = let whole = set-taken _ _ _ c.if-work-lt794702.false c.is_refused.ensures c.set_sums-found.ensures.value c.if-is_refused.false c.set_sums-found.ensures.work_after c.with_sums.ensures in record { value = whole.0; work_after = whole.1 }
