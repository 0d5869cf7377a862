-- A record of a table: an object of names and values, read once, with the places of its values as they stand.
-- The places go into cells, two numbers a field: where the value starts and where it ends; the end is 0 for a null, and
-- both are 0 for a field that is absent. The record's cells start at a base, in the order of the table's fields.
use Rattle.json_bytes.specs.Reads.{Reading, fault_at}
use Rattle.std.specs.Prelude.{ℕ, zero, suc, ◌+◌, ◌*◌, ◌^◌, Bool, false, cond, ◌&&◌, ◌||◌, List, [], ◌∷◌, map, length, get_or, set, ltb, leb, eqb, Ok, Err}
use Rattle.table_rows.specs.Rows.{Field}
use Rattle.table_value.specs.Value.{value_at}
use Rattle.table_value.specs.declared.ValueRead.{ValueRead}
use Rattle.table_value.specs.declared.ValueRead.TheVariants.{Held, Null, Bad}
use Rattle.table_name.specs.Name.{NameRead, name_at, colon_at, first_in, next_after}
use Rattle.table_name.specs.declared.Next.{Next}
use Rattle.table_name.specs.declared.Next.TheVariants.{More, Ends, Neither}

-- ---- The cells
unfoldable pub start_cell : List ℕ → ℕ → ℕ → ℕ
start_cell cells base k = get_or cells (base + 2 * k) 0

unfoldable pub end_cell : List ℕ → ℕ → ℕ → ℕ
end_cell cells base k = get_or cells (base + 2 * k + 1) 0

unfoldable pub stored : List ℕ → ℕ → ℕ → ℕ → ℕ → List ℕ
stored cells base k start end = set (set cells (base + 2 * k) start) (base + 2 * k + 1) end

-- n cells from a base on, made 0
unfoldable pub cleared : List ℕ → ℕ → ℕ → List ℕ
cleared cells base zero = cells
cleared cells base (suc n) = set (cleared cells base n) (base + n) 0

-- ---- What reading gives: the cells then, and the place behind, or the fault; what was read up to a fault stays in the cells
pub record Filled : Type 0 where
  pub cells : List ℕ
  pub outcome : Reading

abbrev pub cells_filled : List ℕ → Reading → Filled
cells_filled cells outcome = record { cells = cells; outcome = outcome }

-- ---- A name and its value
unfoldable pub type_of : List Field → ℕ → ℕ
type_of fields k = get_or (map (λ (f : Field). f.type) fields) k 0

-- the value that begins at a place, in field k
unfoldable pub stored_value : List ℕ → ℕ → ℕ → ℕ → ValueRead → Filled
stored_value cells base k start (Held end) = cells_filled (stored cells base k start end) (Ok end)
stored_value cells base k start (Null end) = cells_filled (stored cells base k start 0) (Ok end)
stored_value cells base k start (Bad kind place) = cells_filled cells (fault_at kind place)

unfoldable pub after_colon : List Field → List ℕ → List ℕ → ℕ → ℕ → Reading → Filled
after_colon fields s cells base k (Ok start) = stored_value cells base k start (value_at s start (type_of fields k))
after_colon fields s cells base k (Err e) = cells_filled cells (Err e)

-- whether field k has been read: a value starts behind a brace at least, so that a start of 0 says that it has not
unfoldable pub is_read : List ℕ → ℕ → ℕ → Bool
is_read cells base k = ltb 0 (start_cell cells base k)

-- 14: "name a second time in the record; its opening quote"
unfoldable pub after_name : List Field → List ℕ → ℕ → List ℕ → ℕ → NameRead → Filled
after_name fields s at cells base (Ok n) =
    cond (is_read cells base n.index) (cells_filled cells (fault_at 14 at)) (after_colon fields s cells base n.index (colon_at s n.end))
after_name fields s at cells base (Err e) = cells_filled cells (Err e)

unfoldable pub pair_at : List Field → List ℕ → ℕ → List ℕ → ℕ → Filled
pair_at fields s at cells base = after_name fields s at cells base (name_at fields s at)

-- ---- The closing brace. 19: "non-nullable field absent, null or empty; closing brace of the record"
-- whether field k must hold a value and does not
unfoldable pub lacks : Bool → List ℕ → ℕ → ℕ → Bool
lacks nullable cells base k = cond nullable false (eqb (end_cell cells base k) 0)

-- whether one of these fields does, the first of them field k of the record
unfoldable pub is_missing : List Field → List ℕ → ℕ → ℕ → Bool
is_missing [] cells base k = false
is_missing (f ∷ fs) cells base k = lacks f.nullable cells base k || is_missing fs cells base (suc k)

unfoldable pub record_closed_at : List Field → List ℕ → ℕ → ℕ → Reading
record_closed_at fields cells base at = cond (is_missing fields cells base 0) (fault_at 19 at) (Ok (at + 1))

-- ---- The names and values one behind the other, the next at a place; each takes a byte at least
unfoldable pub pairs_from : ℕ → List Field → List ℕ → ℕ → List ℕ → ℕ → Filled
pairs_from zero fields s at cells base = cells_filled cells (fault_at 11 at)
pairs_from (suc n) fields s at cells base =
    let pair = pair_at fields s at cells base in
    elim pair.outcome [
      | Ok end ↦
          elim (next_after s end 125) [
            | More next ↦ pairs_from n fields s next pair.cells base
            | Ends last ↦ cells_filled pair.cells (record_closed_at fields pair.cells base last)
            | Neither place ↦ cells_filled pair.cells (fault_at 11 place)
          ]
      | Err e ↦ cells_filled pair.cells (Err e)
    ]

unfoldable pub members_of : List Field → List ℕ → List ℕ → ℕ → Next → Filled
members_of fields s cells base (More at) = pairs_from (length s) fields s at cells base
members_of fields s cells base (Ends at) = cells_filled cells (record_closed_at fields cells base at)
members_of fields s cells base (Neither at) = cells_filled cells (fault_at 11 at)

-- ---- The record whose opening brace stands at a place. Where its cells do not fit into the lent ones, or a place of the
-- file not into a cell, nothing is read: 99, which no mark of a set is.
unfoldable pub record_has_room : List ℕ → List ℕ → ℕ → ℕ → Bool
record_has_room s cells base count = ltb (length s) (2 ^ 32) && (leb count 64 && leb (base + 2 * count) (length cells))

unfoldable pub record_at : List Field → List ℕ → ℕ → List ℕ → ℕ → Filled
record_at fields s at cells base =
    cond (record_has_room s cells base (length fields))
    (members_of fields s (cleared cells base (2 * length fields)) base (first_in s at 125))
    (cells_filled cells (fault_at 99 at))
