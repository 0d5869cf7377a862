-- The rules of the baseline profile. Document 02, order 8: "At contract start a set has no progress in it. A baseline profile adds
-- marks", 81 to 84, to those of document 01. Fields are named as document 002 names them, and looked up in its tables.
use Rattle.std.specs.Prelude.{ℕ, suc}
use Prim.Native.String.{String}
use mathlib.Core.List.{List, [], ◌∷◌, ◌++◌, map, flatten}
use Rattle.rule_shape.specs.declared.Rule.{Rule}
use Rattle.rule_shape.specs.declared.Rule.TheVariants.{AllGiven, NoneGiven, InOrder}
use Rattle.rule_shape.specs.Rule.{row_of}
use Rattle.schedule_rules.specs.Rules.{no, rules}

-- ---- Shapes, with their fields by name: over the fields from one to another, and of two Dates
unfoldable pub all_given : ℕ → String → String → Rule
all_given file a b = AllGiven file (no file a) (suc (no file b))

unfoldable pub none_given : ℕ → String → String → Rule
none_given file a b = NoneGiven file (no file a) (suc (no file b))

unfoldable pub dates_in_order : ℕ → String → String → Rule
dates_in_order file a b = InOrder file (no file a) (no file b)

-- ---- Marks 81 to 84
unfoldable pub further_rules : List Rule
further_rules =
    -- "on file 10, 81 all five baseline fields given", which are mark 75's five
    all_given 10 "BaselineDuration" "FinishVarianceDuration" ∷
    -- "82 no ActualStartDate or ActualFinishDate"
    none_given 10 "ActualStartDate" "ActualFinishDate" ∷
    -- "83 BaselineStartDate not after BaselineFinishDate where both are given"
    dates_in_order 10 "BaselineStartDate" "BaselineFinishDate" ∷
    -- "on file 19, 84 no actual dollars or hours given"
    none_given 19 "Actual_ToDate_Dollars" "Actual_ToDate_Hours" ∷
    []

unfoldable pub baseline_rules : List Rule
baseline_rules = rules ++ further_rules

-- the rows that the code walks
unfoldable pub further_rows : List ℕ
further_rows = flatten (map row_of further_rules)

unfoldable pub baseline_rows : List ℕ
baseline_rows = flatten (map row_of baseline_rules)
