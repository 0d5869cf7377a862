-- The sums of a table of assignments, document 02, order 11: "four elements by six columns". The columns are those of
-- document 002, section 2.2.19, in its order: Budget_AtCompletion, Estimate_ToComplete and Actual_ToDate, each Dollars and
-- then Hours. Elements, columns and records are counted from 0.
use Rattle.std.specs.Prelude.{ℕ, suc, ◌+◌, ◌/◌, ◌%◌, Bool, true, false, cond, not, ◌&&◌, leb, eqb, ℤ, pos}
use Rattle.exact_sums.specs.Sums.{sum_to, wholes}
use Rattle.rule_cells.specs.Cells.{Table, first_that}
use Rattle.amount.specs.Amount.{is_amount_in, amount_in}
use Rattle.cost_element.specs.Element.{element_of}
use Rattle.element_sums.specs.declared.Sums.{Sums}

abbrev pub first_column : ℕ
first_column = 2

abbrev pub column_count : ℕ
column_count = 6

-- ---- "the sum over the records themselves"
-- what record r of assignments t adds, for element e and column c, with the first n records of u as resources
unfoldable pub adds : Table → Table → ℕ → ℕ → ℕ → ℕ → ℤ
adds t u n e c r = cond (eqb (element_of t u n r) (suc e)) (amount_in t r (first_column + c)) (pos 0)

-- over its first m records
unfoldable pub element_sum : Table → Table → ℕ → ℕ → ℕ → ℕ → ℤ
element_sum t u n m e c = sum_to (adds t u n e c) m

-- ---- "A set with any other amount … is left out whole"
unfoldable pub record_fits : Table → ℕ → Bool
record_fits t r = eqb (first_that (λ (c : ℕ). not (is_amount_in t r (first_column + c))) column_count) 0

unfoldable pub all_fit : Table → ℕ → Bool
all_fit t m = eqb (first_that (λ (r : ℕ). not (record_fits t r)) m) 0

-- ---- Together: whether all amounts fit, and then the sums, element by element. No table has over 4,096 records.
unfoldable pub can_sum : Table → Table → Bool
can_sum t u = leb t.records 4096 && (leb u.records 4096 && all_fit t t.records)

-- the sum at place i of 24: of element i / 6 and column i % 6
unfoldable pub sum_at : Table → Table → ℕ → ℤ
sum_at t u i = element_sum t u u.records t.records (i / column_count) (i % column_count)

abbrev pub no_sums : Sums
no_sums = record { fits = false; sums = wholes (λ i. pos 0) 24 }

unfoldable pub sums_in : Table → Table → Sums
sums_in t u = cond (can_sum t u) (record { fits = true; sums = wholes (sum_at t u) 24 }) no_sums
