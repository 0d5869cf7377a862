-- A condition on one field of a record, as rules state them: given, true, or one of at most two enumeration values.
use Rattle.std.specs.Prelude.{ℕ, Bool, true, false, cond, ◌||◌, List, eqb}
use Rattle.table_rows.specs.Rows.{value_text_at}
use Rattle.rule_cells.specs.Cells.{Table, is_given, is_true, is_word}
use Rattle.rule_when.specs.declared.When.{When}

-- field k of record r is value v of the enumeration values that the two lists hold
unfoldable pub is_value : Table → ℕ → ℕ → List ℕ → List ℕ → ℕ → Bool
is_value t r k places texts v = is_word t r k (value_text_at places texts v)

-- 0: always; 1: the field is given; 2: it is true; any other: it is the first or the second value
unfoldable pub holds_when : Table → ℕ → When → List ℕ → List ℕ → Bool
holds_when t r w places texts =
    cond (eqb w.kind 0) true
    (cond (eqb w.kind 1) (is_given t.cells t.width r w.field)
    (cond (eqb w.kind 2) (is_true t r w.field)
    (is_value t r w.field places texts w.first || is_value t r w.field places texts w.second)))
