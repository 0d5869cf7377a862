-- A file of a set: left out, or there with its bytes. Where it came from is no part of it.
use Rattle.std.specs.Prelude.{ℕ, Bool, true, false, cond, List, []}

pub data File : Type 0 where
  Left : File
  Given : List ℕ → File

unfoldable pub is_present : File → Bool
is_present Left = false
is_present (Given bytes) = true

-- its bytes; none of one that is left out
unfoldable pub bytes_of : File → List ℕ
bytes_of Left = []
bytes_of (Given bytes) = bytes

-- a file by whether it is there: "new bytes .., or withdrawal"
unfoldable pub new_file : Bool → List ℕ → File
new_file present bytes = cond present (Given bytes) Left
