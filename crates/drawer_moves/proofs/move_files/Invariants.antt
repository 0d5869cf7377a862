-- `drawer_moves::move_files` meets its contract.
use Prim.Native.Nat.{◌-◌}
use lib.ListN.{length}
use Rattle.drawer_moves.specs.Next.{Moving}
use Rattle.drawer_moves.proofs.move_files.Given as goal

abbrev pub invariant-loop-i : goal.invariant-loop-i
invariant-loop-i l = Moving 20 l.initial.d l.offs l.lens l.c l.end l.i l.d

abbrev pub decreases-loop-i : goal.decreases-loop-i
decreases-loop-i l = length l.initial.d - l.c
