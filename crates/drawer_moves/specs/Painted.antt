-- Bytes with pieces written over them, and the files of a drawer moved down.
use Rattle.std.specs.Prelude.{ℕ, zero, suc, cond, List, length, get_or, take, drop}
use Rattle.bundle_bytes.specs.Pieces.{written}
use Rattle.drawer_layout.specs.Places.{stand_apart, places_moved_down}

-- bytes d with the first n pieces written over them, each from its place on; all other bytes are as they were
unfoldable pub painted : (ℕ → List ℕ) → List ℕ → ℕ → List ℕ → List ℕ
painted pieces places zero d = d
painted pieces places (suc i) d = written (painted pieces places i d) (get_or places i 0) (pieces i)

-- the bytes of file i
unfoldable pub part_in : List ℕ → List ℕ → List ℕ → ℕ → List ℕ
part_in d offs lens i = take (get_or lens i 0) (drop (get_or offs i 0) d)

-- "the files are moved down in order of offset, then file number"
unfoldable pub files_moved : ℕ → List ℕ → List ℕ → List ℕ → List ℕ
files_moved n d offs lens = painted (part_in d offs lens) (places_moved_down n offs lens) n d

-- of files that stand apart; else nothing is moved
unfoldable pub moved_in : ℕ → List ℕ → List ℕ → List ℕ → List ℕ
moved_in n d offs lens = cond (stand_apart n offs lens (length d) n) (files_moved n d offs lens) d
