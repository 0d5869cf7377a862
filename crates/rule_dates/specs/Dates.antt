-- The rule over two Dates of a record. Document 02, order 8, mark 83: "BaselineStartDate not after BaselineFinishDate where both
-- are given".
use Rattle.std.specs.Prelude.{ℕ, Bool, false, Some, None, cond, ◌&&◌, ltb, eqb}
use Rattle.json_date.specs.Date.{Date}
use Rattle.rule_cells.specs.Cells.{Table, table, is_given, date_in, first_that}

-- day d of month m of year y is later than day e of month n of year z: by the year, then by the month, then by the day
unfoldable pub is_later : ℕ → ℕ → ℕ → ℕ → ℕ → ℕ → Bool
is_later y m d z n e = cond (eqb y z) (cond (eqb m n) (ltb e d) (ltb n m)) (ltb z y)

unfoldable pub is_after : Date → Date → Bool
is_after (Some a) (Some b) = is_later a.year a.month a.day b.year b.month b.day
is_after (Some a) None = false
is_after None other = false

-- record r breaks the rule: equal Dates hold, and so does a null
unfoldable pub breaks_order : Table → ℕ → ℕ → ℕ → Bool
breaks_order t first second r =
    is_given t.cells t.width r first && (is_given t.cells t.width r second && is_after (date_in t r first) (date_in t r second))

-- the first record that breaks it, from 1; 0 where none does
unfoldable pub dates_in_order_rule : Table → ℕ → ℕ → ℕ
dates_in_order_rule t first second = first_that (breaks_order (table t.bytes t.cells t.width 0) first second) t.records
