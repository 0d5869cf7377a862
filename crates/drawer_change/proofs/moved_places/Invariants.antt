-- `drawer_change::moved_places` meets its contract.
use mathlib.Core.Path.{◌≡◌}
use lib.ListN.{length}
use Rattle.drawer_layout.specs.Places.{moved_to}
use Rattle.drawer_held.proofs.Laws.{Filled}
use Rattle.drawer_change.proofs.moved_places.Given as goal

abbrev pub invariant-loop-i : goal.invariant-loop-i
invariant-loop-i l = (length l.out ≡ length l.initial.out) × Filled (moved_to 20 l.offs l.lens) l.i l.initial.out l.out
