-- `drawer_layout::stand_apart` meets its contract.
use mathlib.Core.Path.{◌≡◌}
use mathlib.Core.Bool.{true}
use Rattle.drawer_layout.specs.Places.{stand_apart}
use Rattle.drawer_layout.proofs.stand_apart.Given as goal

abbrev pub invariant-loop-i : goal.invariant-loop-i
invariant-loop-i l = stand_apart 20 l.offs l.lens l.room l.i ≡ true
