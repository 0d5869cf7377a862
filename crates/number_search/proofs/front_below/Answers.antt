-- `number_search::front_below` meets its contract: the turns that are left end where the whole does.
-- Assumes nothing.
use Prim.Native.Nat.{◌-◌}
use mathlib.Core.Path.{refl}
use native.Mathlib.Omega.{arith}
use borrow.Author.Tests.{lt-ltb, le-ltb}
use Rattle.number_search.proofs.Laws.{starts, ends, goes_on, goes_back}
use Rattle.number_search.proofs.front_below.Goals as goal

pub loop-lo-init : goal.loop-lo-init
loop-lo-init c = starts _ _

pub overflow_add-m : goal.overflow_add-m
overflow_add-m c = omega (arith, c.loop-lo.invariant.inside)

pub offset_bounds-numbers-m : goal.offset_bounds-numbers-m
offset_bounds-numbers-m c = omega (arith, c.loop-lo.invariant.inside)

pub bounds-numbers-m : goal.bounds-numbers-m
bounds-numbers-m c = omega (arith, c.loop-lo.invariant.inside)

pub overflow_add-lo : goal.overflow_add-lo
overflow_add-lo c = omega (arith, c.loop-lo.invariant.inside)

pub loop-lo-preserved-then-numbers-m : goal.loop-lo-preserved-then-numbers-m
loop-lo-preserved-then-numbers-m c = goes_on _ _ _ _ c.loop-lo.invariant c.loop-lo-test.true _ refl (lt-ltb _ _ c.if-numbers-m.true)

pub loop-lo-preserved : goal.loop-lo-preserved
loop-lo-preserved c = goes_back _ _ _ _ c.loop-lo.invariant c.loop-lo-test.true _ refl (le-ltb _ _ c.if-numbers-m.false)

pub returns : goal.returns
returns c = ends _ _ _ _ c.loop-lo.invariant c.loop-lo-test.false
