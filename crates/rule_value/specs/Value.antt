-- Rules on one field of a record: an enumeration's value, null unless a condition holds, given if one does.
use Rattle.std.specs.Prelude.{ℕ, zero, suc, Bool, true, false, not, ◌&&◌, List}
use Rattle.rule_cells.specs.Cells.{Table, table, is_given, first_that}
use Rattle.rule_when.specs.When.{is_value, holds_when}
use Rattle.rule_value.specs.declared.FieldRule.{FieldRule}
use Rattle.rule_value.specs.declared.FieldRule.TheVariants.{OneOf, NullUnless, GivenIf}

-- field k of record r is one of n values from number v on
unfoldable pub is_one_of : Table → ℕ → ℕ → List ℕ → List ℕ → ℕ → ℕ → Bool
is_one_of t r k places texts zero v = false
is_one_of t r k places texts (suc n) v = elim (is_value t r k places texts v) [ true ↦ true | false ↦ is_one_of t r k places texts n (suc v) ]

unfoldable pub agrees : Bool → Bool → Bool
agrees true b = b
agrees false b = not b

-- record r breaks the rule on field k:
-- marks 36 to 47, a value that is not one of the enumeration's, "Null holds.";
-- marks 65, 66, 72 and 76, null unless the condition holds;
-- mark 71, given if the condition holds, and mark 77, given unless it does
unfoldable pub breaks_field : Table → ℕ → FieldRule → List ℕ → List ℕ → ℕ → Bool
breaks_field t k (OneOf v n) places texts r = is_given t.cells t.width r k && not (is_one_of t r k places texts n v)
breaks_field t k (NullUnless w) places texts r = is_given t.cells t.width r k && not (holds_when t r w places texts)
breaks_field t k (GivenIf w wanted) places texts r =
    not (is_given t.cells t.width r k) && agrees wanted (holds_when t r w places texts)

-- the first record that breaks it, from 1; 0 where none does. Whether one record breaks it has nothing to do with how many
-- there are.
unfoldable pub field_rule : Table → ℕ → FieldRule → List ℕ → List ℕ → ℕ
field_rule t k rule places texts = first_that (breaks_field (table t.bytes t.cells t.width 0) k rule places texts) t.records
