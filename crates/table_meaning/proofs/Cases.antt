-- Worked cases: which record a mark names, in a table of one String that may not be null.
-- Assumes nothing.
use Prim.Native.Nat.{ℕ}
use Prim.Native.String.{String}
use mathlib.Core.Path.{◌≡◌, refl}
use mathlib.Core.Bool.{false}
use mathlib.Core.List.{List, [], ◌∷◌, map}
use Rattle.json_bytes.specs.Ascii.{codes}
use Rattle.table_rows.specs.Rows.{Field}
use Rattle.table_rows.specs.Types.{string}
use Rattle.table_file.specs.Table.{read_table}
use Rattle.table_file.proofs.Opens.{open-files}

abbrev fields : List Field
fields = record { name = codes "A"; type = string; nullable = false } ∷ []

-- room for three records
abbrev cells : List ℕ
cells = 0 ∷ 0 ∷ 0 ∷ 0 ∷ 0 ∷ 0 ∷ []

abbrev answer : String → List ℕ
answer file =
    let read = (read_table false fields (codes file) cells).read in
    read.kind ∷ read.companion ∷ []

pub named : map answer (
    "[{\"B\"" ∷  -- 13 in the first record
    "[{\"A\":\"x\"},{\"A\":1}]" ∷  -- 15 in the second
    "[{\"A\":\"x\"}, {\"A\":\"y\"}, {\"A\":\"z\",\"A\"" ∷  -- 14 in the third
    "[{\"A\":\"x\"},{}]" ∷  -- 19 in the second names none
    []
    )
    ≡ ((13 ∷ 1 ∷ []) ∷ (15 ∷ 2 ∷ []) ∷ (14 ∷ 3 ∷ []) ∷ (19 ∷ 0 ∷ []) ∷ [])
unfolding open-files
named = refl
