-- The quarter of document 02, order 11: "assigned dollars and hours by element of cost over up to 256 sets: four elements by
-- six columns, in ten-thousandths". Total i of 24 is that of element i / 6 and column i % 6.
use Rattle.std.specs.Prelude.{ℕ, zero, suc, ◌+◌, ◌*◌, Bool, true, false, cond, not, ◌||◌, List, [], ◌∷◌, length, take, set, replicate, ltb, leb, eqb, ℤ, pos, ◌+ℤ◌, nat_abs}
use Rattle.exact_sums.specs.Sums.{sum_to, wholes, whole_at}
use Rattle.rule_cells.specs.Cells.{first_that}
use Rattle.set_sums.specs.Set.{is_counted, set_adds}
use Rattle.set_sums.specs.Work.{sums_left}
use Rattle.quarter.specs.declared.Quarter.{Quarter}
use Rattle.quarter.specs.declared.Taken.{Taken}

-- before any set
unfoldable pub started : Quarter
started = record { totals = wholes (λ i. pos 0) 24; sets = 0; left = replicate 256 false }

-- ---- "Refusals: 10, a 257th set, or a handed total beyond 409,600,000,000 either way for each set counted", left-out sets
-- included: 4,096,000,000,000,000 ten-thousandths a set
abbrev pub limit_of : ℕ → ℕ
limit_of sets = 4096000000000000 * sets

unfoldable pub is_beyond : Quarter → ℕ → Bool
is_beyond q i = ltb (limit_of q.sets) (nat_abs (whole_at q.totals i))

unfoldable pub is_refused : Quarter → Bool
is_refused q = leb 256 q.sets || ltb 0 (first_that (is_beyond q) 24)

-- ---- A set taken: it adds what it has, "counted as such and its place in the run listed" where it is left out; "it counts
-- towards the 256"
unfoldable pub with_set : Quarter → List ℕ → Quarter
with_set q s =
    record { totals = wholes (λ i. whole_at q.totals i +ℤ set_adds s i) 24; sets = q.sets + 1; left = set q.left q.sets (not (is_counted s)) }

-- "each column's grand total to the sum of its four"
unfoldable pub grand_total : Quarter → ℕ → ℤ
grand_total q c = sum_to (λ e. whole_at q.totals (6 * e + c)) 4

-- ---- The call
-- refused: "the totals stay"
unfoldable pub refused_with : ℕ → Quarter → Taken
refused_with refusal q = record { refusal = refusal; quarter = q; grand = wholes (λ c. pos 0) 6 }

unfoldable pub accepted_as : Quarter → Taken
accepted_as q = record { refusal = 0; quarter = q; grand = wholes (grand_total q) 6 }

unfoldable pub taken : Quarter → List ℕ → Taken
taken q s = cond (is_refused q) (refused_with 10 q) (accepted_as (with_set q s))

-- over a workspace of so many numbers: 14 where it is too short, before all else
unfoldable pub taken_in : Quarter → List ℕ → ℕ → Taken
taken_in q s lent = cond (leb 794702 lent) (taken q s) (refused_with 14 q)

-- what is left in it: after a refusal all as it was lent
unfoldable pub taken_left : Quarter → List ℕ → List ℕ → List ℕ
taken_left q s work = cond (is_refused q) work (sums_left s work)

-- ---- How many sets of the run were left out
unfoldable pub trues : List Bool → ℕ
trues [] = 0
trues (true ∷ l) = trues l + 1
trues (false ∷ l) = trues l

unfoldable pub left_out : Quarter → ℕ
left_out q = trues (take q.sets q.left)
