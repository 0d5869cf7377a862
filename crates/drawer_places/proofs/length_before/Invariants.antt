-- `drawer_places::length_before` meets its contract.
use Prim.Native.Nat.{◌*◌, ◌^◌, ◌≤◌}
use mathlib.Core.Path.{◌≡◌}
use mathlib.Core.Bool.{cond}
use lib.ListN.{get_or}
use Rattle.drawer_layout.specs.Places.{total, comes_before}
use Rattle.drawer_places.proofs.length_before.Given as goal

abbrev pub invariant-loop-j : goal.invariant-loop-j
invariant-loop-j l = (l.sum ≡ total (λ j. cond (comes_before l.offs j l.i) (get_or l.lens j 0) 0) l.j) × (l.sum ≤ l.j * 2 ^ 32)
