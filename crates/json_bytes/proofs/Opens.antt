-- One name opens every definition of this crate, for tests that compute: a definition that is
-- added here asks nothing of those above.
use mathlib.Core.Bool.{Bool, true}
use Rattle.json_bytes.specs.Ascii.{codes}
use Rattle.json_bytes.specs.Reads.{within, leading, is_space, spaces_end, spelled_at, literal_at}

unfoldable pub open-bytes : Bool
unfolding within leading is_space spaces_end spelled_at literal_at codes
open-bytes = true
