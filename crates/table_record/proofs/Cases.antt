-- Worked cases of document 01 for a record of Resources: P11, the errors that it names, and both sides of each kind.
-- Assumes nothing.
use Rattle.json_bytes.specs.Reads.{fault_at}
use Rattle.std.specs.Prelude.{Ok}
use Prim.Native.Nat.{ℕ}
use Prim.Native.String.{String}
use mathlib.Core.Path.{◌≡◌, refl}
use mathlib.Core.List.{List, [], ◌∷◌, map}
use Rattle.table_record.proofs.Opens.{open-records}
use Rattle.json_bytes.specs.Ascii.{codes}
use Rattle.table_fields.specs.Fields.{fields_of}
use Rattle.table_record.specs.Record.{Filled, cells_filled, record_at}

-- the first record of a file, read into cells of which the first and the last are not its own
abbrev cells_before : List ℕ
cells_before = 5 ∷ 6 ∷ 6 ∷ 6 ∷ 6 ∷ 6 ∷ 6 ∷ 6 ∷ 6 ∷ 7 ∷ []

abbrev first_record : String → Filled
first_record file = record_at (fields_of 16) (codes file) 1 cells_before 1

-- each with what it is to show
abbrev files : List String
files =
    "[{\"ID\":\"R1\",\"Name\":\"Fitter\"}]" ∷  -- P11: ElementOfCostID is absent
    "[{}]" ∷  -- P11: every field is absent
    "[{\"ID\":\"R1\",\"ID\":\"R2\"}]" ∷  -- a name a second time
    "[{\"ID\":null,\"ID\":\"R2\"}]" ∷  -- a second time, also behind a null
    "[{\"id\":\"R1\"}]" ∷  -- case is kept in names
    "[{\"\\u0049D\":\"R1\",\"Name\":true}]" ∷  -- decoded, the name is ID; a literal is no String
    "[{\"ID\":\"R1\",}]" ∷  -- no name behind a comma
    "[{\"ID\":\"R1\" \"Name\":\"Fitter\"}]" ∷  -- no comma
    "[{\"ID\" \"R1\"}]" ∷  -- no colon
    "[{\"ID\":\"R1\"" ∷  -- cut off
    []

pub faults : map (λ file. (first_record file).outcome) files
    ≡ (fault_at 19 27 ∷ fault_at 19 2 ∷ fault_at 14 12 ∷ fault_at 14 12 ∷ fault_at 13 2 ∷ fault_at 15 24 ∷ fault_at 11 12 ∷ fault_at 11 12 ∷ fault_at 11 7 ∷ fault_at 11 11 ∷ [])
unfolding open-records
faults = refl

-- the cells then: where each value starts and where it ends, 0 where a null or an empty string ends
pub whole : first_record "[{\"Comments\":\"\",\"ID\": \"R1\",\"ElementOfCostID\":\"LABOR\",\"Name\":\"Fitter\"}]"
    ≡ cells_filled (5 ∷ 22 ∷ 26 ∷ 60 ∷ 68 ∷ 45 ∷ 52 ∷ 13 ∷ 0 ∷ 7 ∷ []) (Ok 69)
unfolding open-records
whole = refl

-- what was read up to a fault stays, and the cells of the fields that are absent are cleared
pub stays : first_record "[{\"ID\":\"R1\",\"Name\":null,\"Comments\":[]}]"
    ≡ cells_filled (5 ∷ 7 ∷ 11 ∷ 19 ∷ 0 ∷ 0 ∷ 0 ∷ 0 ∷ 0 ∷ 7 ∷ []) (fault_at 15 35)
unfolding open-records
stays = refl
