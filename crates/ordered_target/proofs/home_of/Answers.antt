-- `ordered_target::home_of` meets its contract: each way gives a slot that there is.
use Rattle.std.proofs.Common.{arith}
use Rattle.ordered_target.proofs.home_of.Goals as goal

pub overflow_sub-end : goal.overflow_sub-end
overflow_sub-end c = let b = c.is_short.ensures c.if-is_short.true in omega (arith, b.1)

pub eight_at-requires : goal.eight_at-requires
eight_at-requires c = let b = c.is_short.ensures c.if-is_short.true in omega (arith, b.1, b.2)

pub overflow_sub-end-then-is_short : goal.overflow_sub-end-then-is_short
overflow_sub-end-then-is_short c = let b = c.is_short.ensures c.if-is_short.true in omega (arith, b.0)

pub overflow_sub-end-then-is_short-2 : goal.overflow_sub-end-then-is_short-2
overflow_sub-end-then-is_short-2 c = let b = c.is_short.ensures c.if-is_short.true in omega (arith, b.0)
