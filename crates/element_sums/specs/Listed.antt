-- For the code's sake alone: the same sums, with the elements of the assignments in a list.
use Rattle.std.specs.Prelude.{ℕ, suc, ◌+◌, ◌/◌, ◌%◌, true, cond, List, length, get_or, leb, eqb, ℤ, pos}
use Rattle.exact_sums.specs.Sums.{sum_to, wholes}
use Rattle.rule_cells.specs.Cells.{Table}
use Rattle.amount.specs.Amount.{amount_in}
use Rattle.cost_element.specs.Element.{elements_after}
use Rattle.element_sums.specs.declared.Sums.{Sums}
use Rattle.element_sums.specs.Sums.{first_column, column_count, no_sums}

-- in field k, the records whose entry is `element`
unfoldable pub adds_listed : Table → List ℕ → ℕ → ℕ → ℕ → ℤ
adds_listed t elements element k r = cond (eqb (get_or elements r 0) element) (amount_in t r k) (pos 0)

unfoldable pub sum_listed : Table → List ℕ → ℕ → ℕ → ℤ
sum_listed t elements element k = sum_to (adds_listed t elements element k) (length elements)

unfoldable pub sum_listed_at : Table → List ℕ → ℕ → ℤ
sum_listed_at t elements i = sum_listed t elements (i / column_count + 1) (first_column + i % column_count)

-- with as many assignments as the list has places
unfoldable pub sums_found : Table → Table → ℕ → List ℕ → Sums
sums_found t u n list =
    cond (leb n 4096) (record { fits = true; sums = wholes (sum_listed_at t (elements_after t u n list)) 24 }) no_sums
