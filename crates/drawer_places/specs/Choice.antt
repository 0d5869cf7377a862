-- For the code's sake alone: where a change puts its bytes, and whether the files are moved for it, as one value.
use Rattle.std.specs.Prelude.{ℕ, Bool, List}
use Rattle.drawer_layout.specs.Places.{are_moved, new_place}
use Rattle.drawer_places.specs.declared.Choice.{Choice}

unfoldable pub chosen : ℕ → List ℕ → List ℕ → ℕ → Bool → ℕ → Choice
chosen n offs lens room present m = record { place = new_place n offs lens room present m; moved = are_moved n offs lens room present m }
