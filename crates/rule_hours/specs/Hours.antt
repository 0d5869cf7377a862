-- The rules over a run of fields of a record, from one field on and up to another, which is no part of it: hours beside
-- zero, fields that are null together, and fields that are all given or none.
use Rattle.std.specs.Prelude.{ℕ, zero, suc, ◌-◌, Bool, true, false, not, ◌&&◌, List, [], ltb}
use Rattle.json_number.specs.declared.Sign.{Sign}
use Rattle.json_number.specs.declared.Sign.TheVariants.{Zero, Above, Below}
use Rattle.rule_cells.specs.Cells.{Table, table, is_given, sign_in, first_that}
use Rattle.rule_hours.specs.declared.Shape.{Shape}
use Rattle.rule_hours.specs.declared.Shape.TheVariants.{SomeBelow, NoneAbove, Mixed, SomeNull, SomeGiven}

-- ---- The first field of a run that passes a test; the run's end where none does
-- of n fields from field k on
unfoldable pub field_from : (ℕ → Bool) → ℕ → ℕ → ℕ → ℕ
field_from test to zero k = to
field_from test to (suc n) k = elim (test k) [ true ↦ k | false ↦ field_from test to n (suc k) ]

unfoldable pub first_field_that : (ℕ → Bool) → ℕ → ℕ → ℕ
first_field_that test from to = field_from test to (to - from) from

-- whether some field of the run passes it
unfoldable pub any_field : (ℕ → Bool) → ℕ → ℕ → Bool
any_field test from to = ltb (first_field_that test from to) to

-- ---- What is asked of field k of record r; "null is 0", which is neither below zero nor above it
abbrev pub below_zero : Sign → Bool
below_zero Below = true
below_zero Zero = false
below_zero Above = false

abbrev pub above_zero : Sign → Bool
above_zero Above = true
above_zero Zero = false
above_zero Below = false

unfoldable pub lies_below : Table → ℕ → ℕ → Bool
lies_below t r k = below_zero (sign_in t r k)

unfoldable pub is_above : Table → ℕ → ℕ → Bool
is_above t r k = above_zero (sign_in t r k)

unfoldable pub is_null : List ℕ → ℕ → ℕ → ℕ → Bool
is_null cells width r k = not (is_given cells width r k)

-- ---- When a record breaks a rule over the run
unfoldable pub breaks : Shape → Table → ℕ → ℕ → ℕ → Bool
breaks SomeBelow t from to r = any_field (lies_below t r) from to
breaks NoneAbove t from to r = not (any_field (is_above t r) from to)
breaks Mixed t from to r =
    any_field (is_given t.cells t.width r) from to && any_field (is_null t.cells t.width r) from to
breaks SomeNull t from to r = any_field (is_null t.cells t.width r) from to
breaks SomeGiven t from to r = any_field (is_given t.cells t.width r) from to

-- 68: "no hours below zero"; 70: "hours not below zero"
unfoldable pub none_below_rule : Table → ℕ → ℕ → ℕ
none_below_rule t from to = first_that (breaks SomeBelow t from to) t.records

-- 69: "some hours above zero; null is 0"
unfoldable pub some_above_rule : Table → ℕ → ℕ → ℕ
some_above_rule t from to = first_that (breaks NoneAbove t from to) t.records

-- 75: "the five baseline and variance fields all null or none", which asks for no byte of the file
unfoldable pub together_rule : List ℕ → ℕ → ℕ → ℕ → ℕ → ℕ
together_rule cells width records from to = first_that (breaks Mixed (table [] cells width records) from to) records

-- document 02, order 8. 81: "all five baseline fields given"
unfoldable pub all_given_rule : List ℕ → ℕ → ℕ → ℕ → ℕ → ℕ
all_given_rule cells width records from to = first_that (breaks SomeNull (table [] cells width records) from to) records

-- 82: "no ActualStartDate or ActualFinishDate"; 84: "no actual dollars or hours given". 0 is given.
unfoldable pub none_given_rule : List ℕ → ℕ → ℕ → ℕ → ℕ → ℕ
none_given_rule cells width records from to = first_that (breaks SomeGiven (table [] cells width records) from to) records
