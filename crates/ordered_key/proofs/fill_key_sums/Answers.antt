-- `ordered_key::fill_key_sums` meets its contract: the first i places have their sums.
use native.Mathlib.Omega.{arith}
use Rattle.mark_numbers.proofs.Laws.{fill-starts, fill-stores, fill-ends}
use Rattle.ordered_key.proofs.fill_key_sums.Goals as goal

pub loop-i-init : goal.loop-i-init
loop-i-init c = fill-starts _ _

pub loop-i-preserved : goal.loop-i-preserved
loop-i-preserved c = fill-stores _ _ c.loop-i.invariant (omega (arith, c.loop-i.invariant.long)) _ c.key_sum_of.ensures
