-- For the code's sake alone: the quarter's parts as its functions have them.
use Rattle.std.specs.Prelude.{ℕ, ◌+◌, ◌*◌, Bool, not, List, set, ltb, ℤ, pos, ◌+ℤ◌, nat_abs}
use Rattle.exact_sums.specs.Sums.{wholes, whole_at}
use Rattle.rule_cells.specs.Cells.{first_that}
use Rattle.element_sums.specs.declared.Sums.{Sums}
use Rattle.quarter.specs.declared.Quarter.{Quarter}

unfoldable pub far_from : ℕ → ℤ → Bool
far_from limit x = ltb limit (nat_abs x)

unfoldable pub some_far : ℕ → List ℤ → Bool
some_far limit totals = ltb 0 (first_that (λ (i : ℕ). far_from limit (whole_at totals i)) 24)

unfoldable pub totals_with : List ℤ → List ℤ → List ℤ
totals_with totals sums = wholes (λ i. whole_at totals i +ℤ whole_at sums i) 24

unfoldable pub column_grand : List ℤ → ℕ → ℤ
column_grand totals c = whole_at totals c +ℤ whole_at totals (c + 6) +ℤ whole_at totals (c + 12) +ℤ whole_at totals (c + 18)

unfoldable pub grand_of : List ℤ → List ℤ
grand_of totals = wholes (column_grand totals) 6

-- the state with a set's sums
unfoldable pub state_with : Quarter → Sums → Quarter
state_with q found =
    record { totals = totals_with q.totals found.sums; sets = q.sets + 1; left = set q.left q.sets (not found.fits) }
