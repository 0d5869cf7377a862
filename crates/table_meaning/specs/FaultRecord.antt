-- The record that a fault stands in. Document 02, order 5: "for 13 to 18 and 30 to 34 the record's number", which is one more
-- than the number of records that are whole before it.
use Rattle.std.specs.Prelude.{ℕ, ◌+◌, ◌*◌, ◌<◌, ◌≤◌, ◌≡◌, Bool, true, false, ◌||◌, List, [], length, eqb}
use Rattle.json_bytes.specs.Reads.{byte_at, spaces_end, fault_at}
use Rattle.table_rows.specs.Rows.{Field}
use Rattle.table_name.specs.Name.{first_in}
use Rattle.table_name.specs.declared.Next.TheVariants.{More}
use Rattle.table_record.specs.Record.{record_at}
use Rattle.table_file.specs.Table.{names_record}
use Rattle.table_meaning.specs.Meaning.{Span, Row, Gives, record_in, record_width}

-- the kinds that are given inside a record alone: those that name it, and 19
unfoldable pub of_record : ℕ → Bool
of_record kind = names_record kind || eqb kind 19

-- the object that begins at a place stands in the array behind these records, or is the singleton
abbrev pub Leads : Bool → List ℕ → List Span → ℕ → Type 0
Leads true s records at = (records ≡ []) × (at ≡ spaces_end s 0)
Leads false s records at = (byte_at s (spaces_end s 0) ≡ 91) × Row s 93 (first_in s (spaces_end s 0) 93) records (More at)

-- The fault stands in record r, counted from 1: the records before it are whole, each with its cells, and in the object that
-- begins behind them stands the fault: reading it, with the cells as they are then, gives this kind and place.
pub record FaultIn (single : Bool) (fields : List Field) (s cells : List ℕ) (r kind place : ℕ) : Type 0 where
  pub records : List Span
  pub number : r ≡ length records + 1
  pub gives : (i : ℕ) → i < length records → Gives fields s (record_in records i) cells (i * record_width fields)
  pub at : ℕ
  pub leads : Leads single s records at
  pub before : (i : ℕ) → i < length records → (record_in records i).to < at
  pub brace : byte_at s at ≡ 123
  pub then : List ℕ
  pub reads : (record_at fields s at then (length records * record_width fields)).outcome ≡ fault_at kind place
  pub behind : at ≤ place
  pub inside : place ≤ length s
