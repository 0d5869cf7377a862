-- `link_loops::write_ring` meets its contract: the first i places have their record numbers.
-- Assumes nothing.
use Prim.Native.Nat.{◌+◌, ◌-◌}
use mathlib.Core.Path.{◌≡◌, refl}
use native.Mathlib.Omega.{arith}
use Rattle.mark_numbers.proofs.Laws.{fill-starts, fill-stores}
use Rattle.link_loops.proofs.Shown.{all-written}
use Rattle.link_loops.proofs.write_ring.Goals as goal

pub loop-i-init : goal.loop-i-init
loop-i-init c = fill-starts _ _

pub overflow_add-list : goal.overflow_add-list
overflow_add-list c = omega (arith, c.requires.1, c.requires.3)

pub offset_bounds-way-start : goal.offset_bounds-way-start
offset_bounds-way-start c = omega (arith, c.requires.1, c.requires.3)

pub bounds-way-start : goal.bounds-way-start
bounds-way-start c = omega (arith, c.requires.1)

pub overflow_add-list-in-loop-i : goal.overflow_add-list-in-loop-i
overflow_add-list-in-loop-i c = omega (arith, c.requires.4 (c.args.start + c.loop-i.i) (omega arith))

pub overflow_cast-list : goal.overflow_cast-list
overflow_cast-list c = omega (arith, c.requires.4 (c.args.start + c.loop-i.i) (omega arith))

pub offset_bounds-list-i : goal.offset_bounds-list-i
offset_bounds-list-i c = omega (arith, c.requires.1, c.requires.3)

pub bounds-list-i : goal.bounds-list-i
bounds-list-i c = omega (arith, c.loop-i.invariant.long, c.requires.2)

pub loop-i-preserved : goal.loop-i-preserved
loop-i-preserved c = fill-stores _ _ c.loop-i.invariant (omega (arith, c.requires.2)) _ refl

pub shape_of-list : goal.shape_of-list
shape_of-list c = c.loop-i.invariant.long

pub returns : goal.returns
returns c = let z : c.loop-i.i ≡ c.args.end - c.args.start = omega arith in record { value = refl; list_after = all-written _ _ _ _ c.loop-i.invariant z }
