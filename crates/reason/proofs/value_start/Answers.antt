-- `reason::value_start` meets its contract: a cell is a number of 32 bits, so that the sum fits.
-- Assumes nothing.
use native.Mathlib.Omega.{arith}
use Rattle.reason.proofs.Found.{start_small, start-given, start-null}
use Rattle.reason.proofs.value_start.Goals as goal

pub overflow_add-result : goal.overflow_add-result
overflow_add-result c = omega (arith, c.start_of.ensures, start_small c.args.cells.now c.args.width c.args.r c.args.k 4294967296 (omega arith) (λ i. omega (arith, c.shared_slice_known-1.given i)))

pub returns-then-is_given : goal.returns-then-is_given
returns-then-is_given c = start-given _ _ _ _ c.is_given.ensures _ c.start_of.ensures c.if-is_given.true

pub returns : goal.returns
returns c = start-null _ _ _ _ c.is_given.ensures _ c.if-is_given.false
