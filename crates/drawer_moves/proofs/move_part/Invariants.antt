-- `drawer_moves::move_part` meets its contract.
use mathlib.Core.Path.{◌≡◌}
use lib.ListN.{length, take, drop}
use lib.Seq.{paste}
use Rattle.drawer_moves.proofs.move_part.Given as goal

abbrev pub invariant-loop-i : goal.invariant-loop-i
invariant-loop-i l = (length l.d ≡ length l.initial.d) × (l.d ≡ paste l.initial.d l.to (take l.n (drop l.from l.initial.d)) l.i)
