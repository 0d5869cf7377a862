-- `quarter_sets::print_left_out` is safe and ends: each turn prints the line of one place.
use Prim.Native.Nat.{◌-◌, ◌≤◌}
use lib.ListN.{length}
use Rattle.quarter_sets.proofs.print_left_out.Given as goal

abbrev pub invariant-loop-place : goal.invariant-loop-place
invariant-loop-place g l = l.place ≤ length l.causes

abbrev pub decreases-loop-place : goal.decreases-loop-place
decreases-loop-place g l = length l.causes - l.place
