-- Which kinds the mark of a file can be, where the records have room: 0 where the file holds, those of document 01 but 16, and
-- 30 to 34 of document 02, order 4. So "16 is never given again", and 99 is no mark.
-- Assumes nothing.
use Prim.Native.Nat.{ℕ, ◌+◌, ◌*◌, ◌^◌, ◌≤◌, ◌<◌}
use mathlib.Core.Path.{◌≡◌, refl, sym, ◌∙◌}
use mathlib.Core.Bool.{Bool, true, false, cond, false≢true}
use mathlib.Core.List.{List, [], ◌∷◌, ◌++◌, flat_map}
use native.Mathlib.Nat.{mul-le-mul_right, add-mul}
use native.Mathlib.Omega.{arith}
use lib.ListN.{length}
use lib.Dec.{ltb}
use Rattle.json_bytes.specs.Reads.{spaces_end, within}
use Rattle.json_bytes.proofs.Laws.{either}
use Rattle.json_bytes.proofs.FaultKinds.{is_in, In, wider, in_left, in_right, below, in_order, Faults, of-reading}
use Rattle.parts.specs.Files.{File, Left, Given, bytes_of}
use Rattle.json_same.specs.Same.{same_list}
use Rattle.table_rows.specs.Rows.{Field}
use Rattle.table_value.specs.Value.{text_type, not_object_at}
use Rattle.table_value.proofs.FaultKinds.{other_kinds, not-object-kinds}
use Rattle.table_record.specs.Record.{record_has_room, record_at}
use Rattle.table_record.proofs.FaultKinds.{record_kinds, record-kinds}
use Rattle.table_record.proofs.Laws.{room-is}
use Rattle.table_file.specs.declared.FileRead.{FileRead}
use Rattle.table_file.specs.Table.{TableRead, end_of_file, read_table}
use Rattle.table_file.specs.File.{Form, Fixed, Single, Records, Expected, omitted, fixed_read, read_as, file_of}
use Rattle.table_file.proofs.Elements.{table-holds}

-- ---- a table: its records, what stands in the place of one, one too many, and what stands around them
abbrev pub table_kinds : List ℕ
table_kinds = 0 ∷ 11 ∷ 20 ∷ (other_kinds ++ record_kinds)

-- the kind of a mark; 0 is one of a table's, for it holds
abbrev Marked : FileRead → Type 0
Marked f = In table_kinds f.kind

end-kinds : (s : List ℕ) (at records : ℕ) → Marked (end_of_file s at records)
unfolding end_of_file
end-kinds s at records = either Marked (ltb (spaces_end s at) (length s)) _ _ refl refl

-- what so many records ask for
pub record Room (records : ℕ) (fields : List Field) (s cells : List ℕ) : Type 0 where
  pub small : length s < 2 ^ 32
  pub few : length fields ≤ 64
  pub room : records * (2 * length fields) ≤ length cells

-- a singleton has one record, any other table 4,096 at most
module _ (fields : List Field) (s cells : List ℕ) (single : Bool) (all : Room (cond single 1 4096) fields s cells) where
  pub room_at : (now : List ℕ) (r : ℕ) → length now ≡ length cells → r < cond single 1 4096 → record_has_room s now (r * (2 * length fields)) (length fields) ≡ true
  room_at now r e l =
      room-is s now (r * (2 * length fields)) (length fields) all.small all.few
      (omega (arith, all.room, mul-le-mul_right {m = r + 1} {n = cond single 1 4096} (2 * length fields) (omega arith), add-mul r 1 (2 * length fields)))

  pub table-kinds : In table_kinds (read_table single fields s cells).read.kind
  table-kinds =
      table-holds (cond single 1 4096) fields s cells (Faults table_kinds) (λ (f : TableRead). Marked f.read)
      (record {
        of-record = λ at now r e l.
            of-reading (Faults table_kinds) record_kinds (λ end. tt) (λ kind place h. in_right (0 ∷ 11 ∷ 20 ∷ other_kinds) record_kinds kind h)
            (record_at fields s at now (r * (2 * length fields))).outcome (record-kinds fields s (r * (2 * length fields)) at now (room_at now r e l));
        of_other = λ at.
            of-reading (Faults table_kinds) other_kinds (λ end. tt) (λ kind place h. in_right (0 ∷ 11 ∷ 20 ∷ []) (other_kinds ++ record_kinds) kind (in_left other_kinds record_kinds kind h))
            (not_object_at s at) (not-object-kinds s at);
        of-many = λ at. refl;
        of-stop = λ at. refl;
        of-fault = λ then kind place r e q. q;
        of_end = λ then at records e l. end-kinds s at records;
      })
      single (omega arith)

-- ---- a file: a table's, 21 and 22. Written out: those of document 01, "Marks 0 to 19", without 16, and document 02's.
abbrev pub file_kinds : List ℕ
file_kinds = 0 ∷ 10 ∷ 11 ∷ 12 ∷ 13 ∷ 14 ∷ 15 ∷ 17 ∷ 18 ∷ 19 ∷ 20 ∷ 21 ∷ 22 ∷ 30 ∷ 31 ∷ 32 ∷ 33 ∷ 34 ∷ []

pub file-kinds-are : in_order (21 ∷ 22 ∷ table_kinds) ≡ file_kinds
unfolding below flat_map within text_type
file-kinds-are = refl

of-table : (kind : ℕ) → In table_kinds kind → In file_kinds kind
unfolding below flat_map within text_type
of-table = wider table_kinds file_kinds refl

abbrev OfFile : FileRead → Type 0
OfFile f = In file_kinds f.kind

-- by its form: a fixed text asks for nothing
abbrev pub FormRoom : Form → List ℕ → List ℕ → Type 0
FormRoom (Fixed text) s cells = Unit {0}
FormRoom (Single fields) s cells = Room 1 fields s cells
FormRoom (Records fields) s cells = Room 4096 fields s cells

form-kinds : (form : Form) (s cells : List ℕ) → FormRoom form s cells → OfFile (read_as form s cells).read
unfolding read_as fixed_read
form-kinds (Fixed text) s cells room = either OfFile (same_list s text) _ _ refl refl
form-kinds (Single fields) s cells room =
    of-table (read_table true fields s cells).read.kind (table-kinds fields s cells true room)
form-kinds (Records fields) s cells room =
    of-table (read_table false fields s cells).read.kind (table-kinds fields s cells false room)

pub file-kinds : (e : Expected) (f : File) (cells : List ℕ) → FormRoom e.form (bytes_of f) cells → In file_kinds (file_of e f cells).read.kind
unfolding file_of omitted bytes_of
file-kinds e Left cells room = either OfFile e.required _ _ refl refl
file-kinds e (Given s) cells room = form-kinds e.form s cells room

module _ (e : Expected) (f : File) (cells : List ℕ) (room : FormRoom e.form (bytes_of f) cells) where
  pub never : (kind : ℕ) → is_in file_kinds kind ≡ false → (file_of e f cells).read.kind ≡ kind → ⊥
  never kind none is = false≢true (sym none ∙ rw is at (file-kinds e f cells room))

  pub never-16 : (file_of e f cells).read.kind ≡ 16 → ⊥
  never-16 = never 16 refl

  pub never-99 : (file_of e f cells).read.kind ≡ 99 → ⊥
  never-99 = never 99 refl

-- ---- where a file's cells are those that its form asks for, and no more
abbrev pub count_of : Form → ℕ
count_of (Fixed text) = 0
count_of (Single fields) = length fields
count_of (Records fields) = length fields

abbrev pub cells_of : Form → ℕ
cells_of (Fixed text) = 0
cells_of (Single fields) = 1 * (2 * length fields)
cells_of (Records fields) = 4096 * (2 * length fields)

pub own_room : (form : Form) (s cells : List ℕ) → length s < 2 ^ 32 → count_of form ≤ 64 → length cells ≡ cells_of form → FormRoom form s cells
own_room (Fixed text) s cells small few same = tt
own_room (Single fields) s cells small few same = record { small = small; few = few; room = omega arith }
own_room (Records fields) s cells small few same = record { small = small; few = few; room = omega arith }

pub own-kinds : (e : Expected) (f : File) (cells : List ℕ) → length (bytes_of f) < 2 ^ 32 → count_of e.form ≤ 64 → length cells ≡ cells_of e.form → In file_kinds (file_of e f cells).read.kind
own-kinds e f cells small few same = file-kinds e f cells (own_room e.form (bytes_of f) cells small few same)
