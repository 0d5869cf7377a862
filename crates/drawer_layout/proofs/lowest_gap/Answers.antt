-- `drawer_layout::lowest_gap` meets its contract.
use native.Mathlib.Omega.{arith}
use Rattle.drawer_layout.proofs.Laws.{gap-start, gap-none, gap_at, gap-turn, gap-grows}
use Rattle.bundle_layout.specs.Bundle.{header_size}
use Rattle.drawer_layout.proofs.lowest_gap.Goals as goal

-- src/lib.rt:97:9
pub returns-then-room-m : goal.returns-then-room-m
unfolding header_size
returns-then-room-m c = gap-none 20 _ _ _ _ 164 (gap-start 20 _ _ _ _) (omega arith)

-- src/lib.rt:101:5
pub loop-p-init : goal.loop-p-init
unfolding header_size
loop-p-init c = gap-start 20 _ _ _ _

-- src/lib.rt:104:13
pub returns-then-i-eq20 : goal.returns-then-i-eq20
returns-then-i-eq20 c = gap_at 20 _ _ _ _ _ c.loop-p.invariant c.loop-p-test.true c.if-room-m.false c.first_in_way-i.ensures c.if-i-eq20.true

-- src/lib.rt:106:13
pub overflow_add-p : goal.overflow_add-p
overflow_add-p c = omega (arith, c.number_in.ensures.1, c.number_in-in-loop-p.ensures.1)

-- src/lib.rt:101:5
pub loop-p-smaller : goal.loop-p-smaller
loop-p-smaller c = omega (arith, gap-grows 20 _ _ _ c.args.room _ c.first_in_way-i.ensures c.if-i-eq20.false c.number_in.ensures.0 c.number_in-in-loop-p.ensures.0)

-- src/lib.rt:101:5
pub loop-p-preserved : goal.loop-p-preserved
loop-p-preserved c = gap-turn 20 _ _ _ _ _ c.loop-p.invariant c.first_in_way-i.ensures c.if-i-eq20.false c.number_in.ensures.0 c.number_in-in-loop-p.ensures.0

-- src/lib.rt:93:1
pub returns : goal.returns
returns c = gap-none 20 _ _ _ _ _ c.loop-p.invariant (omega arith)
