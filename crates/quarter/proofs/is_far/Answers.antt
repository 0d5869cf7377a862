-- `quarter::is_far` meets its contract: either test tells whether the number is beyond the limit.
-- Assumes nothing.
use Rattle.exact_sums.proofs.Signed.{held_below}
use Rattle.quarter.proofs.Totals.{above-read, least-read}
use Rattle.quarter.proofs.is_far.Goals as goal

pub returns-then-most-x : goal.returns-then-most-x
returns-then-most-x c = above-read _ _ c.requires c.ranges.x c.if-most-x.true

pub overflow_sub-least : goal.overflow_sub-least
overflow_sub-least c = held_below _ c.requires

pub returns : goal.returns
returns c = least-read _ _ c.requires c.ranges.x c.if-most-x.false
