-- `drawer_places::all_lengths` meets its contract.
use Prim.Native.Nat.{◌*◌, ◌^◌, ◌≤◌}
use mathlib.Core.Path.{◌≡◌}
use lib.ListN.{get_or}
use Rattle.drawer_layout.specs.Places.{total}
use Rattle.drawer_places.proofs.all_lengths.Given as goal

abbrev pub invariant-loop-j : goal.invariant-loop-j
invariant-loop-j l = (l.sum ≡ total (λ j. get_or l.lens j 0) l.j) × (l.sum ≤ l.j * 2 ^ 32)
