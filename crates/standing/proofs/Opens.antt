-- One name opens every definition of this crate, for tests that compute: a definition that is
-- added here asks nothing of those above.
use mathlib.Core.Bool.{Bool, true}
use Rattle.parts.proofs.Opens.{open-parts}
use Rattle.standing.specs.Standing.{number_of, slice_of, is_there, standing, standing_with}

unfoldable pub open-standing : Bool
unfolding open-parts number_of slice_of is_there standing standing_with
open-standing = true
