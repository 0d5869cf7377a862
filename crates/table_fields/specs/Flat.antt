-- The document's tables laid out flat, as the code holds them: five numbers a field and two a value, in the form that
-- `table_rows` reads, and the texts that they point into one behind the other.
use Rattle.std.specs.Prelude.{ℕ, suc, ◌+◌, cond, length}
use mathlib.Core.List.{List, [], ◌∷◌, ◌++◌, map, flatten}
use Rattle.table_rows.specs.Rows.{Field, count_before}
use Rattle.table_fields.specs.Fields.{tables}
use Rattle.table_fields.specs.Enumerations.{enumerations}

-- ---- Fields
unfoldable pub names_of : List Field → List ℕ
names_of fs = flatten (map (λ f. f.name) fs)

-- the rows of one table's fields, whose names stand from place `at` on
unfoldable pub rows_from : ℕ → ℕ → List Field → List ℕ
rows_from table at [] = []
rows_from table at (f ∷ fs) =
    table ∷ f.type ∷ cond f.nullable 1 0 ∷ at ∷ (at + length f.name) ∷ rows_from table (at + length f.name) fs

-- the rows of the tables one behind the other, from table k on
unfoldable pub rows_of : ℕ → ℕ → List (List Field) → List ℕ
rows_of k at [] = []
rows_of k at (fs ∷ rest) = rows_from k at fs ++ rows_of (suc k) (at + length (names_of fs)) rest

unfoldable pub field_rows : List ℕ
field_rows = rows_of 0 0 tables

unfoldable pub field_names : List ℕ
field_names = names_of (flatten tables)

-- ---- Values, numbered through all enumerations
unfoldable pub places_from : ℕ → List (List ℕ) → List ℕ
places_from at [] = []
places_from at (v ∷ vs) = at ∷ (at + length v) ∷ places_from (at + length v) vs

unfoldable pub value_places : List ℕ
value_places = places_from 0 (flatten enumerations)

unfoldable pub value_texts : List ℕ
value_texts = flatten (flatten enumerations)

-- the number of an enumeration's first value; past the last enumeration, the count of all
unfoldable pub first_value : ℕ → ℕ
first_value e = count_before enumerations e
