-- `amount::signed` meets its contract: the sign decides, and either number is near enough to be held.
-- Assumes nothing.
use mathlib.Core.Path.{◌∙◌}
use native.Mathlib.Omega.{arith}
use Rattle.exact_sums.proofs.Signed.{held_below, below-read, cast-read}
use Rattle.amount.proofs.signed.Goals as goal

pub overflow_sub-result : goal.overflow_sub-result
overflow_sub-result c = held_below c.args.size (omega arith)

pub returns-then-negative : goal.returns-then-negative
returns-then-negative c = below-read c.args.size (omega arith) ∙ rw c.if-negative.true

pub returns-else-negative : goal.returns-else-negative
returns-else-negative c = cast-read c.args.size (omega arith) ∙ rw c.if-negative.false
