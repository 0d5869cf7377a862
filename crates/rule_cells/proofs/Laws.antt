-- The cells of a record, and the first breaking record: three laws that serve every rule.
-- Assumes nothing.
use Prim.Native.Nat.{ℕ, suc, ◌+◌, ◌*◌, ◌-◌, ◌≤◌, ◌<◌}
use mathlib.Core.Path.{◌≡◌, refl, sym}
use mathlib.Core.Bool.{Bool, true, false, cond, ◌&&◌}
use mathlib.Core.List.{List}
use native.Mathlib.Nat.{mul-le-mul_left, mul-le-mul_right, le_trans}
use native.Mathlib.Numerals.{add-one}
use native.Mathlib.Omega.{arith}
use borrow.Author.Tests.{le-leb, lt-leb}
use lib.ListN.{get_or}
use lib.Dec.{leb}
use Rattle.rule_cells.specs.Cells.{cell_of, first_from}

-- records and their cells are few, so that a cell's number is small
pub product_small : (r w : ℕ) → r ≤ 4096 → w ≤ 128 → r * w ≤ 524288
product_small r w p q = le_trans (mul-le-mul_right w p) (mul-le-mul_left 4096 q)

module _ (cells : List ℕ) (width r j : ℕ) where
  pub cell-is : r ≤ 4096 → width ≤ 128 → j ≤ 128 → cell_of cells width r j ≡ get_or cells (r * width + j) 0
  unfolding cell_of
  cell-is p q s = rw (le-leb r 4096 p, le-leb width 128 q, le-leb j 128 s)

  pub cell-past-records : 4096 < r → cell_of cells width r j ≡ 0
  unfolding cell_of
  cell-past-records p = rw (lt-leb r 4096 p)

  pub cell-past-width : r ≤ 4096 → 128 < width → cell_of cells width r j ≡ 0
  unfolding cell_of
  cell-past-width p q = rw (le-leb r 4096 p, lt-leb width 128 q)

  pub cell-past : r ≤ 4096 → width ≤ 128 → 128 < j → cell_of cells width r j ≡ 0
  unfolding cell_of
  cell-past p q s = rw (le-leb r 4096 p, le-leb width 128 q, lt-leb j 128 s)

-- past the last cell of a record, whatever the record
pub cell-none : (cells : List ℕ) (width r j : ℕ) → 128 < j → cell_of cells width r j ≡ 0
unfolding cell_of
cell-none cells width r j h = rw (lt-leb j 128 h) (both_false (leb r 4096) (leb width 128))
  where
    both_false : (a b : Bool) → cond (a && (b && false)) (get_or cells (r * width + j) 0) 0 ≡ 0
    both_false true true = refl
    both_false true false = refl
    both_false false b = refl

-- ---- the first breaking record: what is left of the search at record i
module _ (breaks : ℕ → Bool) (n i : ℕ) where
  pub search-hits : i < n → breaks i ≡ true → first_from breaks (n - i) i ≡ i + 1
  unfolding first_from
  search-hits l e =
      let q : n - i ≡ suc (n - (i + 1)) = omega arith in
      rw (q, e, first_from) (sym (add-one i))

  pub search-goes-on : i < n → breaks i ≡ false → first_from breaks (n - i) i ≡ first_from breaks (n - (i + 1)) (i + 1)
  unfolding first_from
  search-goes-on l e =
      let q : n - i ≡ suc (n - (i + 1)) = omega arith in
      rw (q, e, first_from, add-one i)

  pub search-ends : n ≤ i → first_from breaks (n - i) i ≡ 0
  unfolding first_from
  search-ends l =
      let q : n - i ≡ 0 = omega arith in
      rw q

-- all three, for the loop of a rule that goes over the records
pub ruleset searching = (search-hits, search-goes-on, search-ends)
