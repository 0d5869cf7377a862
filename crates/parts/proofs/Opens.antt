-- One name opens every definition of this crate, for tests that compute: a definition that is
-- added here asks nothing of those above.
use mathlib.Core.Bool.{Bool, true}
use Rattle.parts.specs.Files.{is_present, bytes_of, new_file}
use Rattle.parts.specs.Part.{part_of}

unfoldable pub open-parts : Bool
unfolding part_of is_present bytes_of new_file
open-parts = true
