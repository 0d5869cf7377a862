-- Fields and enumeration values as rows of numbers, which is how code is lent them, and how one is read back from any such
-- rows. Reading is total: a number past the end is 0, and a place that is none gives the empty text.
use Rattle.std.specs.Prelude.{ℕ, zero, suc, ◌+◌, ◌*◌, ◌/◌, Bool, not, length, get_or, take, drop, eqb}
use mathlib.Core.List.{List, [], ◌∷◌, flatten}
use Rattle.json_bytes.specs.Reads.{leading}
use Rattle.parts.specs.Part.{part_of}

-- n entries by their numbers, from number f on
unfoldable pub listed : {A : Type 0} → (ℕ → A) → ℕ → ℕ → List A
listed at zero f = []
listed at (suc n) f = at f ∷ listed at n (suc f)

-- how many entries stand in the groups before group t
unfoldable pub count_before : {A : Type 0} → List (List A) → ℕ → ℕ
count_before groups t = length (flatten (take t groups))

-- number k of a row, in rows of one width
unfoldable pub cell_at : List ℕ → ℕ → ℕ → ℕ → ℕ
cell_at rows width row k = get_or rows (row * width + k) 0

-- ---- A field is a row of five numbers: its table, its type, 1 where it is nullable, and where its name starts among the
-- names and where it ends
pub record Field : Type 0 where
  pub name : List ℕ
  pub type : ℕ
  pub nullable : Bool

abbrev pub table_at : List ℕ → ℕ → ℕ
table_at rows f = cell_at rows 5 f 0

abbrev pub type_at : List ℕ → ℕ → ℕ
type_at rows f = cell_at rows 5 f 1

abbrev pub nullable_at : List ℕ → ℕ → Bool
nullable_at rows f = eqb (cell_at rows 5 f 2) 1

abbrev pub name_start : List ℕ → ℕ → ℕ
name_start rows f = cell_at rows 5 f 3

abbrev pub name_end : List ℕ → ℕ → ℕ
name_end rows f = cell_at rows 5 f 4

unfoldable pub field_name_at : List ℕ → List ℕ → ℕ → List ℕ
field_name_at rows names f = part_of names (name_start rows f) (name_end rows f)

unfoldable pub field_at : List ℕ → List ℕ → ℕ → Field
field_at rows names f = record { name = field_name_at rows names f; type = type_at rows f; nullable = nullable_at rows f }

-- n fields from number f on
unfoldable pub fields_from : List ℕ → List ℕ → ℕ → ℕ → List Field
fields_from rows names n f = listed (field_at rows names) n f

-- the rows behind the first f of them, so that field f is the first
abbrev pub rows_after : List ℕ → ℕ → List ℕ
rows_after rows f = drop (f * 5) rows

-- ---- The fields of table k are the run of rows that name it
-- the tables that the rows name, row by row
unfoldable pub tables_in : List ℕ → List ℕ
tables_in rows = listed (table_at rows) (length rows / 5) 0

-- how many rows stand before the first that names table k; all of them where none does
unfoldable pub first_field : List ℕ → ℕ → ℕ
first_field rows k = leading (λ t. not (eqb t k)) (tables_in rows)

-- how many rows name it from there on, one behind the other
unfoldable pub field_count : List ℕ → ℕ → ℕ
field_count rows k = leading (λ t. eqb t k) (drop (first_field rows k) (tables_in rows))

unfoldable pub fields_in : List ℕ → List ℕ → ℕ → List Field
fields_in rows names k = fields_from rows names (field_count rows k) (first_field rows k)

-- ---- A value is a row of two numbers: where its text starts among the texts and where it ends
abbrev pub value_name_start : List ℕ → ℕ → ℕ
value_name_start places v = cell_at places 2 v 0

abbrev pub value_end : List ℕ → ℕ → ℕ
value_end places v = cell_at places 2 v 1

unfoldable pub value_text_at : List ℕ → List ℕ → ℕ → List ℕ
value_text_at places texts v = part_of texts (value_name_start places v) (value_end places v)

-- n values from number v on
unfoldable pub values_from : List ℕ → List ℕ → ℕ → ℕ → List (List ℕ)
values_from places texts n v = listed (value_text_at places texts) n v
