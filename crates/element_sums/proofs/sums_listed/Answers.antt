-- `element_sums::sums_listed` meets its contract: the first i places have their sums.
-- Assumes nothing.
use Prim.Native.Nat.{◌-◌}
use mathlib.Core.Path.{refl}
use native.Mathlib.Omega.{arith}
use Rattle.exact_sums.proofs.Lists.{fill-starts, fill-stores, fill-ends}
use Rattle.element_sums.specs.Listed.{sum_listed_at}
use Rattle.exact_sums.proofs.Signed.{read_back}
use Rattle.element_sums.proofs.Laws.{listed-held}
use Rattle.element_sums.proofs.sums_listed.Goals as goal

-- Assumes nothing.

pub loop-i-init : goal.loop-i-init
loop-i-init c = (fill-starts _ _, refl)

pub offset_bounds-sums-i : goal.offset_bounds-sums-i
offset_bounds-sums-i c = omega (arith, c.loop-i.invariant)

pub bounds-sums-i : goal.bounds-sums-i
bounds-sums-i c = omega (arith, c.loop-i.invariant.0.long, c.loop-i.invariant.1)

pub loop-i-preserved : goal.loop-i-preserved
unfolding sum_listed_at
loop-i-preserved c = (fill-stores _ _ c.loop-i.invariant.0 (omega (arith, c.loop-i.invariant.1)) _ (read_back _ c.sum_listed.ensures (listed-held _ _ _ _ c.requires)), c.loop-i.invariant.1)

pub returns : goal.returns
returns c = fill-ends _ _ c.loop-i.invariant.0 24 c.loop-i.invariant.1 c.loop-i-test.false
