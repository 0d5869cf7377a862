-- The sums over a list of elements are the sums over the records, and how far they are from zero.
-- Assumes nothing.
use Prim.Native.Nat.{ℕ, suc, ◌+◌, ◌*◌, ◌-◌, ◌/◌, ◌%◌, ◌≤◌, ◌<◌}
use mathlib.Core.Path.{◌≡◌, refl, sym, ap, ◌∙◌}
use mathlib.Core.Bool.{Bool, true, false, cond, ◌&&◌}
use mathlib.Core.List.{List, []}
use native.Mathlib.Numerals.{add-one}
use native.Mathlib.Omega.{arith}
use borrow.Author.Tests.{eq-eqb, ne_eqb, le-leb, lt-leb, leb-true}
use lib.ListN.{length, get_or, replicate}
use lib.Dec.{leb, eqb}
use lib.IntN.{ℤ, pos, ◌+ℤ◌, nat_abs, +ℤ_idr}
use Rattle.exact_sums.specs.Sums.{sum_to, wholes, whole_at}
use Rattle.exact_sums.proofs.Sums.{sum-next, sum_near, sum_same}
use Rattle.exact_sums.proofs.Lists.{whole-at, wholes-same}
use Rattle.mark_numbers.specs.Marks.{list_of}
use Rattle.mark_numbers.proofs.Laws.{list_at, list_length}
use Rattle.rule_cells.specs.Cells.{Table, table, text_of, same_text, is_word, first_from, first_that}
use Rattle.rule_cells.proofs.Laws.{search-hits, search-ends}
use Rattle.amount.specs.Amount.{largest_amount, ten_thousandths_in, is_amount_in, amount_in}
use Rattle.amount.proofs.Laws.{amount-within}
use Rattle.cost_element.specs.Element.{has_element, is_of, element_of, elements_after}
use Rattle.element_sums.specs.declared.Sums.{Sums}
use Rattle.element_sums.specs.Sums.{first_column, column_count, adds, element_sum, record_fits, all_fit, can_sum, sum_at, no_sums, sums_in}
use Rattle.element_sums.specs.Listed.{adds_listed, sum_listed, sum_listed_at, sums_found}

-- ---- how far from zero
pick-near : (b : Bool) (z : ℤ) (n : ℕ) → nat_abs z ≤ n → nat_abs (cond b z (pos 0)) ≤ n
pick-near true z n h = h
pick-near false z n h = omega arith

pub amount-near-by : (t : Table) (r k : ℕ) {x : ℤ} → x ≡ amount_in t r k → nat_abs x ≤ largest_amount
amount-near-by t r k e = rw e (amount-within t r k)

module _ (t : Table) (elements : List ℕ) (element k : ℕ) where
  pub listed-near : (r : ℕ) → nat_abs (sum_to (adds_listed t elements element k) r) ≤ r * largest_amount
  unfolding adds_listed
  listed-near = sum_near (adds_listed t elements element k) largest_amount (λ r. pick-near (eqb (get_or elements r 0) element) (amount_in t r k) largest_amount (amount-within t r k))

  pub near-so-far : (r : ℕ) {sum : ℤ} → sum ≡ sum_to (adds_listed t elements element k) r → nat_abs sum ≤ r * largest_amount
  near-so-far r e = rw e (listed-near r)

  -- a record of the element adds its amount, any other nothing
  module _ (r : ℕ) {sum : ℤ} (so_far : sum ≡ sum_to (adds_listed t elements element k) r) where
    pub record-adds : get_or elements r 0 ≡ element → {x : ℤ} → x ≡ amount_in t r k → sum +ℤ x ≡ sum_to (adds_listed t elements element k) (r + 1)
    unfolding adds_listed
    record-adds h e = rw (so_far, e, sum-next (adds_listed t elements element k) r, eq-eqb (get_or elements r 0) element h)

    pub record-passes : (get_or elements r 0 ≡ element → ⊥) → sum ≡ sum_to (adds_listed t elements element k) (r + 1)
    unfolding adds_listed
    record-passes h = so_far ∙ sym (sum-next (adds_listed t elements element k) r ∙ rw (ne_eqb (get_or elements r 0) element h) (+ℤ_idr (sum_to (adds_listed t elements element k) r)))

pub sum-of-near : (t u : Table) (n m e c : ℕ) → nat_abs (element_sum t u n m e c) ≤ m * largest_amount
unfolding element_sum adds
sum-of-near t u n m e c =
    sum_near (adds t u n e c) largest_amount (λ r. pick-near (eqb (element_of t u n r) (suc e)) (amount_in t r (first_column + c)) largest_amount (amount-within t r (first_column + c))) m

-- ---- the list of elements is that of the records
module _ (t u : Table) (n m : ℕ) (elements : List ℕ) (are : elements ≡ list_of (element_of t u n) m) where
  listed-adds : (e c r : ℕ) → r < m → adds_listed t elements (e + 1) (first_column + c) r ≡ adds t u n e c r
  unfolding adds_listed adds
  listed-adds e c r h = rw (are, list_at (element_of t u n) m r h, add-one e)

  listed-long : length elements ≡ m
  listed-long = ap length are ∙ list_length (element_of t u n) m

  pub sum-listed-is : (e c : ℕ) → sum_listed t elements (e + 1) (first_column + c) ≡ element_sum t u n m e c
  unfolding sum_listed element_sum
  sum-listed-is e c =
      rw listed-long (sum_same (adds_listed t elements (e + 1) (first_column + c)) (adds t u n e c) m (listed-adds e c))

-- ---- what the record counts of the tables are makes no difference to a record
module _ (s cells : List ℕ) (width m : ℕ) (u-bytes u-cells : List ℕ) (u-width n : ℕ) where
  abbrev t : Table
  t = table s cells width m

  abbrev u : Table
  u = table u-bytes u-cells u-width n

  sum_any : (e c : ℕ) → element_sum (table s cells width 0) (table u-bytes u-cells u-width 0) n m e c ≡ element_sum t u n m e c
  unfolding element_sum adds element_of is_of has_element same_text is_word text_of amount_in ten_thousandths_in
  sum_any e c = refl

  fit-any : all_fit (table s cells width 0) m ≡ all_fit t m
  unfolding all_fit record_fits is_amount_in ten_thousandths_in
  fit-any = refl

  listed_at : leb n 4096 ≡ true → (list : List ℕ) → length list ≡ m → (j : ℕ) → sum_listed_at (table s cells width 0) (elements_after (table s cells width 0) (table u-bytes u-cells u-width 0) n list) j ≡ element_sum (table s cells width 0) (table u-bytes u-cells u-width 0) n m (j / column_count) (j % column_count)
  unfolding sum_listed_at elements_after
  listed_at can list l j =
      sum-listed-is (table s cells width 0) (table u-bytes u-cells u-width 0) n m _ (rw (can, l)) (j / column_count) (j % column_count)

  -- ---- the ways through the call
  pub too_many : 4096 < m → no_sums ≡ sums_in t u
  unfolding sums_in can_sum
  too_many h = rw (lt-leb m 4096 h)

  pub unfit : {x : Bool} → x ≡ all_fit (table s cells width 0) m → x ≡ false → no_sums ≡ sums_in t u
  unfolding sums_in can_sum
  unfit e f = rw (← fit-any, ← e, f) (none (leb m 4096) (leb n 4096))
    where
      none : (a b : Bool) → ◌≡◌ {A = Sums} no_sums (cond (a && (b && false)) (record { fits = true; sums = wholes (sum_at t u) 24 }) no_sums)
      none true true = refl
      none true false = refl
      none false b = refl

  pub summed : m ≤ 4096 → {x : Bool} → x ≡ all_fit (table s cells width 0) m → x ≡ true → (list : List ℕ) → length list ≡ m → {r : Sums} → r ≡ sums_found (table s cells width 0) (table u-bytes u-cells u-width 0) n list → r ≡ sums_in t u
  unfolding sums_in can_sum sums_found sum_at
  summed h e f list l q = q ∙ rw (le-leb m 4096 h, ← fit-any, ← e, f) (go (leb n 4096) refl)
    where
      with-sums : List ℤ → Sums
      with-sums x = record { fits = true; sums = x }

      at_place : (j : ℕ) → element_sum t u n m (j / column_count) (j % column_count) ≡ sum_at t u j
      at_place j = refl

      same : leb n 4096 ≡ true → (j : ℕ) → sum_listed_at (table s cells width 0) (elements_after (table s cells width 0) (table u-bytes u-cells u-width 0) n list) j ≡ sum_at t u j
      same can j =
          listed_at can list l j ∙ sum_any (j / column_count) (j % column_count) ∙ at_place j

      go : (b : Bool) → leb n 4096 ≡ b → ◌≡◌ {A = Sums} (cond b (with-sums (wholes (sum_listed_at (table s cells width 0) (elements_after (table s cells width 0) (table u-bytes u-cells u-width 0) n list)) 24)) no_sums) (cond (b && true) (with-sums (wholes (sum_at t u) 24)) no_sums)
      go true can = ap with-sums (wholes-same _ (sum_at t u) 24 (λ j b. same can j))
      go false can = refl

-- 24 zeros, as the code makes them
pub zeros-are : record { fits = false; sums = replicate 24 (pos 0) } ≡ no_sums
unfolding wholes
zeros-are = refl

-- ---- a search for what does not fit
module _ (breaks : ℕ → Bool) (n i : ℕ) (inv : first_that breaks n ≡ first_from breaks (n - i) i) where
  pub fit-fails : i < n → breaks i ≡ true → false ≡ eqb (first_that breaks n) 0
  fit-fails l h = sym (ne_eqb _ 0 (λ q. omega (arith, sym (inv ∙ search-hits breaks n i l h) ∙ q)))

  pub fit-ends : n ≤ i → true ≡ eqb (first_that breaks n) 0
  fit-ends l = sym (eq-eqb _ 0 (inv ∙ search-ends breaks n i l))

-- ---- what the call with a list answers
module _ (t u : Table) (n : ℕ) (list : List ℕ) {y : Bool} (can : y ≡ leb n 4096) where
  pub none_found : y ≡ false → no_sums ≡ sums_found t u n list
  unfolding sums_found
  none_found f = rw (← can, f)

  pub all_found : y ≡ true → {elements : List ℕ} {sums : List ℤ} → elements ≡ elements_after t u n list → sums ≡ wholes (sum_listed_at t elements) 24 → record { fits = true; sums = sums } ≡ sums_found t u n list
  unfolding sums_found
  all_found f e g = rw (← can, f, g, e)

pub listed-held : (t : Table) (elements : List ℕ) (element k : ℕ) → length elements ≤ 4096 → nat_abs (sum_listed t elements element k) < 9223372036854775808
unfolding sum_listed
listed-held t elements element k h = omega (arith, listed-near t elements element k (length elements))

-- ---- no sum is farther from zero than 4,096 records can add
module _ (t u : Table) (i : ℕ) (l : i < 24) where
  none-near : nat_abs (whole_at (wholes (λ j. pos 0) 24) i) ≤ 4096000000000000
  none-near = rw (whole-at (λ j. pos 0) 24 i l) (omega arith)

  some_near : t.records ≤ 4096 → nat_abs (whole_at (wholes (sum_at t u) 24) i) ≤ 4096000000000000
  unfolding sum_at
  some_near h = rw (whole-at (sum_at t u) 24 i l) (omega (arith, sum-of-near t u u.records t.records (i / column_count) (i % column_count)))

  pub sums-near : nat_abs (whole_at (sums_in t u).sums i) ≤ 4096000000000000
  unfolding sums_in can_sum
  sums-near = go (leb t.records 4096) refl (leb u.records 4096 && all_fit t t.records)
    where
      pick : Bool → Sums
      pick b = cond b (record { fits = true; sums = wholes (sum_at t u) 24 }) no_sums

      go : (a : Bool) → leb t.records 4096 ≡ a → (b : Bool) → nat_abs (whole_at (pick (a && b)).sums i) ≤ 4096000000000000
      go true e true = some_near (leb-true t.records 4096 e)
      go true e false = none-near
      go false e b = none-near
