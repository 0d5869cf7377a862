-- A list of entries as numbers, four an entry: start, length, sum and record. Document 02, order 7: "The list starts with the
-- entries"; "the rest is as before"; "the list is then untouched".
use Rattle.std.specs.Prelude.{ℕ, ◌*◌, ◌/◌, cond, List, length, take, drop, eqb}
use Rattle.bundle_bytes.specs.Pieces.{written}
use Rattle.entries.specs.declared.Entry.{Entry}
use Rattle.entries.specs.Flat.{flat_of}

-- how many entries such a list has room for
abbrev pub places_in : List ℕ → ℕ
places_in list = length list / 4

unfoldable pub numbers_after : ℕ → List Entry → List ℕ → List ℕ
numbers_after refusal entries list = cond (eqb refusal 0) (written list 0 (flat_of entries)) list

-- for the code's sake: the numbers of n entries that stand in a workspace from a place on
unfoldable pub numbers_from : List ℕ → ℕ → ℕ → List ℕ
numbers_from work from n = take (4 * n) (drop from work)
