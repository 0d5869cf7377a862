-- `drawer_layout::lowest_gap` meets its contract.
use Prim.Native.Nat.{◌+◌, ◌-◌}
use Rattle.drawer_layout.proofs.Laws.{Gap}
use Rattle.drawer_layout.proofs.lowest_gap.Given as goal

abbrev pub invariant-loop-p : goal.invariant-loop-p
invariant-loop-p l = Gap 20 l.offs l.lens l.m l.room l.p

abbrev pub decreases-loop-p : goal.decreases-loop-p
decreases-loop-p l = l.room + 1 - l.p
