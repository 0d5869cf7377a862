-- Worked cases of document 01 for a file: P11, and both sides of the kinds that concern a file as a whole.
-- Assumes nothing.
use Prim.Native.Nat.{ℕ, ◌^◌}
use Prim.Native.String.{String}
use mathlib.Core.Path.{◌≡◌, refl, ap, ◌∙◌}
use mathlib.Core.Bool.{Bool, true, false, cond, ◌&&◌}
use mathlib.Core.List.{List, [], ◌∷◌, ◌++◌, map}
use borrow.Author.Tests.{lt-ltb}
use lib.ListN.{length, replicate}
use lib.Dec.{ltb, leb}
use Rattle.table_file.proofs.Opens.{open-files}
use Rattle.json_bytes.proofs.FaultKinds.{below}
use Rattle.parts.specs.Files.{File, Left, Given, bytes_of}
use Rattle.json_bytes.specs.Ascii.{codes}
use Rattle.table_fields.specs.Fields.{fields_of, file_type}
use Rattle.table_file.specs.Table.{names_record, file_holds, fault, TableRead, table_read}
use Rattle.table_file.specs.File.{Form, Fixed, Single, Records, Expected, file_of}
use Rattle.table_file.proofs.FaultKinds.{count_of, cells_of, file_kinds}
use Rattle.table_file.proofs.Many.{many_records, many-short, many-given}

-- room for two records of Resources
abbrev cells_before : List ℕ
cells_before = 0 ∷ 0 ∷ 0 ∷ 0 ∷ 0 ∷ 0 ∷ 0 ∷ 0 ∷ 0 ∷ 0 ∷ 0 ∷ 0 ∷ 0 ∷ 0 ∷ 0 ∷ 0 ∷ []

abbrev expected : Form → Bool → Expected
expected form required = record { form = form; required = required }

abbrev resources : String → TableRead
resources file = file_of (expected (Records (fields_of 16)) false) (Given (codes file)) cells_before

-- each with what it is to show
abbrev files : List String
files =
    "[{\"ID\":\"R1\",\"Name\":\"Fitter\"}]" ∷  -- P11: ElementOfCostID is absent
    "[{}]" ∷  -- P11: every field is absent
    "[]" ∷  -- P11: no records
    " [ ] " ∷  -- spaces around
    "[]x" ∷  -- only spaces may stand behind the value
    "[" ∷  -- cut off
    "" ∷  -- cut off at once
    "{}" ∷  -- no array
    "[null]" ∷  -- no array of objects
    "[tru]" ∷  -- a literal is read whole, then judged
    "[[" ∷  -- an array where none belongs is judged at its opening byte
    "[{\"id\"" ∷  -- a kind that names its record, the first
    "[{\"ID\":\"1\",\"Name\":\"A\",\"ElementOfCostID\":\"X\"},{\"ID\":2" ∷  -- one that names the second
    []

pub marks : map (λ file. (resources file).read) files
    ≡ (fault 19 27 0 ∷ fault 19 2 0 ∷ file_holds 0 ∷ file_holds 0 ∷ fault 11 2 0 ∷ fault 11 1 0 ∷ fault 11 0 0 ∷ fault 12 0 0 ∷ fault 12 1 0 ∷ fault 11 4 0 ∷ fault 12 1 0 ∷ fault 13 2 1 ∷ fault 15 51 2 ∷ [])
unfolding open-files
marks = refl

-- the cells of the records stand one record behind the other
abbrev two : String
two = "[{\"ID\":\"1\",\"Name\":\"A\",\"ElementOfCostID\":\"X\"}, {\"Name\":\"B\",\"ID\":\"2\",\"ElementOfCostID\":\"Y\"}]"

pub records : resources two
    ≡ table_read (7 ∷ 10 ∷ 18 ∷ 21 ∷ 40 ∷ 43 ∷ 0 ∷ 0 ∷ 63 ∷ 66 ∷ 54 ∷ 57 ∷ 85 ∷ 88 ∷ 0 ∷ 0 ∷ []) (file_holds 2)
unfolding open-files
records = refl

-- a singleton is an object
pub singletons : map (λ file. (file_of (expected (Single (fields_of 16)) false) (Given (codes file)) cells_before).read) ("{}" ∷ "[]" ∷ "null " ∷ "{\"id\"" ∷ [])
    ≡ (fault 19 1 0 ∷ fault 12 0 0 ∷ fault 12 0 0 ∷ fault 13 1 1 ∷ [])
unfolding open-files
singletons = refl

-- 21: of the omitted files the required ones alone
pub omissions : map (λ required. (file_of (expected (Records []) required) Left []).read) (true ∷ false ∷ []) ≡ (fault 21 0 0 ∷ file_holds 0 ∷ [])
unfolding open-files
omissions = refl

-- 22: a fixed text is exactly its bytes, and neither fewer nor more
pub types : map (λ file. (file_of (expected (Fixed file_type) true) (Given (codes file)) []).read) ("IPMDAR_SCHEDULE_PERFORMANCE_DATASET/1.0" ∷ "IPMDAR_SCHEDULE_PERFORMANCE_DATASET/1.0 " ∷ "IPMDAR_SCHEDULE_PERFORMANCE_DATASET/1." ∷ "" ∷ [])
    ≡ (file_holds 0 ∷ fault 22 0 0 ∷ fault 22 0 0 ∷ fault 22 0 0 ∷ [])
unfolding open-files
types = refl

-- the kinds that name the record in which they stand
pub naming : below names_record 100 ≡ (13 ∷ 14 ∷ 15 ∷ 16 ∷ 17 ∷ 18 ∷ 30 ∷ 31 ∷ 32 ∷ 33 ∷ 34 ∷ [])
unfolding open-files below
naming = refl

-- ---- Each kind of a file's mark is given
-- a file's kind, where it meets what `file-kinds` asks for; else 99, which is none
abbrev kind_of : Form → File → List ℕ → ℕ
kind_of form f cells =
    cond (ltb (length (bytes_of f)) (2 ^ 32) && (leb (count_of form) 64 && leb (cells_of form) (length cells)))
    (file_of (expected form true) f cells).read.kind 99

-- a singleton with the fields of a table
abbrev single : ℕ → List ℕ → ℕ
single table s = kind_of (Single (fields_of table)) (Given s) (replicate 64 0)

-- the kinds in order; 20 takes 4,097 records, and is shown apart
abbrev kinds_with : ℕ → List ℕ
kinds_with twenty =
    single 2 (codes "{}") ∷  -- it holds
    single 6 (codes "{\"" ++ (0xFF ∷ [])) ∷  -- a byte that begins no sequence
    single 6 (codes "{") ∷  -- cut off
    single 6 (codes "[]") ∷  -- no object
    single 6 (codes "{\"id\"") ∷  -- case is kept in names
    single 6 (codes "{\"ID\":\"C\",\"ID\"") ∷  -- a name a second time
    single 6 (codes "{\"ID\":1") ∷  -- a number is no StringID
    single 8 (codes "{\"ExceptionDate\":\"1900-02-29\"") ∷  -- no day of the calendar
    single 7 (codes "{\"Ordinal\":1e15") ∷  -- too large for an Integer
    single 6 (codes "{}") ∷  -- no field at all
    twenty ∷
    kind_of (Fixed file_type) Left [] ∷  -- omitted
    kind_of (Fixed file_type) (Given []) [] ∷  -- not its 39 bytes
    single 6 (codes "{\"Comments\":\"\\u007F\"") ∷  -- a barred control
    single 6 (codes "{\"Name\":\" \"") ∷  -- a space at the start
    single 6 (codes "{\"ID\":\"\\u00E9\"") ∷  -- outside the ID set
    single 6 (codes "{\"Comments\":\"\\uD800\"") ∷  -- an unpaired surrogate
    single 7 (codes "{\"Ordinal\":0.5") ∷  -- not whole
    []

with-twenty : kinds_with 20 ≡ file_kinds
unfolding open-files
with-twenty = refl

many_is : kind_of (Records []) (Given many_records) [] ≡ 20
unfolding bytes_of
many_is = rw (lt-ltb (length many_records) (2 ^ 32) many-short) (many-given true)

pub each-given : kinds_with (kind_of (Records []) (Given many_records) []) ≡ file_kinds
each-given = ap kinds_with many_is ∙ with-twenty
