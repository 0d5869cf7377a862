-- `drawer_layout::first_in_way` meets its contract.
use mathlib.Core.Path.{◌≡◌}
use mathlib.Core.Bool.{true}
use Rattle.drawer_layout.specs.Places.{is_free}
use Rattle.drawer_layout.proofs.first_in_way.Given as goal

abbrev pub invariant-loop-i : goal.invariant-loop-i
invariant-loop-i l = is_free l.offs l.lens l.p l.m l.i ≡ true
