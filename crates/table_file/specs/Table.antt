-- A table, read once: its records' cells one record behind the other, and its mark with the number of its records.
-- Document 01: "The first fault in reading order is the mark."
use Rattle.std.specs.Prelude.{ℕ, zero, suc, ◌+◌, ◌*◌, Bool, cond, ◌||◌, List, length, ltb, eqb, Ok, Err}
use Rattle.json_bytes.specs.Reads.{byte_at, within, spaces_end, Reading, fault_at}
use Rattle.table_rows.specs.Rows.{Field}
use Rattle.table_value.specs.Value.{not_object_at}
use Rattle.table_name.specs.Name.{first_in, next_after}
use Rattle.table_name.specs.declared.Next.{Next}
use Rattle.table_name.specs.declared.Next.TheVariants.{More, Ends, Neither}
use Rattle.table_record.specs.Record.{Filled, cells_filled, record_at}
use Rattle.table_file.specs.declared.FileRead.{FileRead}

-- The mark's third number, document 02, order 5: "for 13 to 18 and 30 to 34 the record's number; otherwise 0"
unfoldable pub names_record : ℕ → Bool
names_record kind = within 13 18 kind || within 30 34 kind

unfoldable pub companion_of : ℕ → ℕ → ℕ
companion_of kind r = cond (names_record kind) r 0

-- kind 0 place 0: it holds, with so many records; else the fault, and none. The fault stands in the record of this number,
-- from 1; 0 where it stands in none.
abbrev pub file_holds : ℕ → FileRead
file_holds records = record { kind = 0; place = 0; records = records; companion = 0 }

abbrev pub fault : ℕ → ℕ → ℕ → FileRead
fault kind place r = record { kind = kind; place = place; records = 0; companion = companion_of kind r }

pub record TableRead : Type 0 where
  pub cells : List ℕ
  pub read : FileRead

abbrev pub table_read : List ℕ → FileRead → TableRead
table_read cells read = record { cells = cells; read = read }

-- behind the value only spaces may stand; the first other byte is one at which no JSON text can go on
unfoldable pub end_of_file : List ℕ → ℕ → ℕ → FileRead
end_of_file s at records = cond (ltb (spaces_end s at) (length s)) (fault 11 (spaces_end s at) 0) (file_holds records)

-- ---- A singleton is an object
-- the mark by how the file's value was read
unfoldable pub single_read : List ℕ → Reading → FileRead
single_read s (Ok end) = end_of_file s end 1
single_read s (Err e) = fault e.kind e.place 1

unfoldable pub single_of : List ℕ → Filled → TableRead
single_of s f = table_read f.cells (single_read s f.outcome)

unfoldable pub single_at : List Field → List ℕ → List ℕ → ℕ → TableRead
single_at fields s cells at =
    cond (eqb (byte_at s at) 123) (single_of s (record_at fields s at cells 0)) (single_of s (cells_filled cells (not_object_at s at)))

-- ---- A table is an array of objects
-- the element behind r records. 20: "more than 4,096 records; opening brace of the 4,097th"
unfoldable pub element_at : List Field → List ℕ → ℕ → List ℕ → ℕ → Filled
element_at fields s at cells r =
    cond (eqb (byte_at s at) 123)
    (cond (ltb r 4096) (record_at fields s at cells (r * (2 * length fields))) (cells_filled cells (fault_at 20 at)))
    (cells_filled cells (not_object_at s at))

-- the elements one behind the other, the next at a place, behind r records; each takes a byte at least
unfoldable pub elements_from : ℕ → List Field → List ℕ → ℕ → List ℕ → ℕ → TableRead
elements_from zero fields s at cells r = table_read cells (fault 11 at 0)
elements_from (suc n) fields s at cells r =
    let element = element_at fields s at cells r in
    elim element.outcome [
      | Ok end ↦
          elim (next_after s end 93) [
            | More next ↦ elements_from n fields s next element.cells (r + 1)
            | Ends last ↦ table_read element.cells (end_of_file s (last + 1) (r + 1))
            | Neither place ↦ table_read element.cells (fault 11 place 0)
          ]
      | Err e ↦ table_read element.cells (fault e.kind e.place (r + 1))
    ]

unfoldable pub elements_of : List Field → List ℕ → List ℕ → Next → TableRead
elements_of fields s cells (More at) = elements_from (length s) fields s at cells 0
elements_of fields s cells (Ends at) = table_read cells (end_of_file s (at + 1) 0)
elements_of fields s cells (Neither at) = table_read cells (fault 11 at 0)

unfoldable pub array_at : List Field → List ℕ → List ℕ → ℕ → TableRead
array_at fields s cells at =
    cond (eqb (byte_at s at) 91) (elements_of fields s cells (first_in s at 93)) (single_of s (cells_filled cells (not_object_at s at)))

-- ---- Either, behind the spaces that the file begins with
unfoldable pub read_table : Bool → List Field → List ℕ → List ℕ → TableRead
read_table single fields s cells =
    cond single (single_at fields s cells (spaces_end s 0)) (array_at fields s cells (spaces_end s 0))
