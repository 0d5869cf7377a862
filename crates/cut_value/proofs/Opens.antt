-- One name opens every definition of this crate and of those below it, for tests that compute: a definition that is
-- added here asks nothing of those above.
use mathlib.Core.Bool.{Bool, true}
use Rattle.text_place.proofs.Opens.{open-place}
use Rattle.cut_value.specs.Cut.{cut_within, cut_length}

unfoldable pub open-cut : Bool
unfolding open-place cut_within cut_length
open-cut = true
