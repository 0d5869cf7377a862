-- Totals as the code has them: compared with a limit, added, and flags counted.
-- Assumes nothing.
use Prim.Native.Nat.{ℕ, zero, suc, ◌+◌, ◌-◌, ◌≤◌, ◌<◌}
use mathlib.Core.Path.{◌≡◌, refl, sym, ◌∙◌}
use mathlib.Core.Bool.{Bool, true, false, true≢false}
use mathlib.Core.List.{List, [], ◌∷◌, ◌++◌}
use native.Mathlib.Numerals.{add-one}
use native.Mathlib.Omega.{arith}
use borrow.Author.Tests.{lt-ltb, le-ltb, ltb-true, ltb-false}
use lib.ListN.{length, get_or, take}
use lib.Seq.{take-suc, take_all}
use lib.Dec.{ltb}
use lib.IntN.{ℤ, pos, negsuc, neg_ℤ, ◌+ℤ◌, ◌-ℤ◌, nat_abs}
use mir.Syntax.{w64}
use mir.Val.{SFits, to_z, of_z}
use mir.Facts.{to_z-of_z}
use lib.Signed.{lt_z}
use Rattle.exact_sums.proofs.Signed.{sum-within, held-near, cast-read, below-read}
use Rattle.rule_cells.specs.Cells.{first_from, first_that}
use Rattle.rule_cells.proofs.Laws.{search-hits, search-ends}
use Rattle.quarter.specs.Quarter.{trues}
use Rattle.quarter.specs.Code.{far_from}

-- ---- beyond a limit, either way
ltb-both : (m n : ℕ) → ltb m n ≡ ltb (suc m) (suc n)
ltb-both m n = go (ltb m n) refl
  where
    go : (b : Bool) → ltb m n ≡ b → b ≡ ltb (suc m) (suc n)
    go true e = sym (lt-ltb (suc m) (suc n) (omega (arith, ltb-true m n e)))
    go false e = sym (le-ltb (suc m) (suc n) (omega (arith, ltb-false m n e)))

pub far-above : (limit : ℕ) (x : ℤ) → lt_z (pos limit) x ≡ true → true ≡ far_from limit x
unfolding far_from
far-above limit (pos n) e = sym e
far-above limit (negsuc n) e = absurd (true≢false (sym e))

pub far-below : (limit : ℕ) (x : ℤ) → lt_z (pos limit) x ≡ false → lt_z x (neg_ℤ (pos limit)) ≡ far_from limit x
unfolding far_from
far-below zero (pos n) e = le-ltb n 0 (omega arith) ∙ sym e
far-below (suc m) (pos n) e = sym e
far-below zero (negsuc n) e = sym (lt-ltb 0 (suc n) (omega arith))
far-below (suc m) (negsuc n) e = ltb-both m n

-- ---- the first total that is
module _ (breaks : ℕ → Bool) (n i : ℕ) (inv : first_that breaks n ≡ first_from breaks (n - i) i) where
  pub some-breaks : i < n → breaks i ≡ true → true ≡ ltb 0 (first_that breaks n)
  some-breaks l h = sym (lt-ltb 0 (first_that breaks n) (omega (arith, inv ∙ search-hits breaks n i l h)))

  pub none-breaks : n ≤ i → false ≡ ltb 0 (first_that breaks n)
  none-breaks l = sym (le-ltb 0 (first_that breaks n) (omega (arith, inv ∙ search-ends breaks n i l)))

-- ---- flags, one more
trues-append : (a b : List Bool) → trues (a ++ b) ≡ trues a + trues b
unfolding trues
trues-append [] b = omega arith
trues-append (true ∷ a) b = omega (arith, trues-append a b)
trues-append (false ∷ a) b = trues-append a b

pub flag-set : (flags : List Bool) (i : ℕ) → i < length flags → get_or flags i false ≡ true → trues (take (i + 1) flags) ≡ trues (take i flags) + 1
unfolding trues
flag-set flags i l e = rw (add-one i, take-suc flags i false l, e) (trues-append (take i flags) (true ∷ []))

pub flag-clear : (flags : List Bool) (i : ℕ) → i < length flags → get_or flags i false ≡ false → trues (take (i + 1) flags) ≡ trues (take i flags)
unfolding trues
flag-clear flags i l e = rw (add-one i, take-suc flags i false l, e) (trues-append (take i flags) (false ∷ []) ∙ none (trues (take i flags)))
  where
    none : (n : ℕ) → n + 0 ≡ n
    none n = omega arith

pub flags-end : (flags : List Bool) (i n : ℕ) → length flags ≤ i → i ≤ n → take i flags ≡ take n flags
flags-end flags i n l h = take_all i flags l ∙ sym (take_all n flags (omega arith))

-- ---- as the code compares them
module _ (limit : ℕ) (x : ℤ) (h : limit < 9223372036854775808) (f : SFits w64 x) where
  pub above-read : lt_z (to_z w64 limit) (to_z w64 (of_z w64 x)) ≡ true → true ≡ far_from limit x
  above-read e = far-above limit x (rw (cast-read limit h, to_z-of_z f) at e)

  pub least-read : lt_z (to_z w64 limit) (to_z w64 (of_z w64 x)) ≡ false → lt_z (to_z w64 (of_z w64 x)) (to_z w64 (of_z w64 (pos 0 -ℤ to_z w64 limit))) ≡ far_from limit x
  least-read e =
      rw (to_z-of_z f, below-read limit h) (far-below limit x (rw (cast-read limit h, to_z-of_z f) at e))

-- ---- as the code adds them: each is read from its bits
module _ (x y : ℤ) (h : nat_abs x + nat_abs y < 9223372036854775808) where
  x-read : to_z w64 (of_z w64 x) ≡ x
  x-read = to_z-of_z (held-near x (omega arith))

  y-read : to_z w64 (of_z w64 y) ≡ y
  y-read = to_z-of_z (held-near y (omega arith))

  pub two-held : SFits w64 (to_z w64 (of_z w64 x) +ℤ to_z w64 (of_z w64 y))
  two-held = rw (x-read, y-read) (held-near (x +ℤ y) (omega (arith, sum-within x y)))

  pub two-read : to_z w64 (of_z w64 (to_z w64 (of_z w64 x) +ℤ to_z w64 (of_z w64 y))) ≡ x +ℤ y
  two-read = to_z-of_z two-held ∙ rw (x-read, y-read)

module _ (x y z w : ℤ) (hx : nat_abs x < 2000000000000000000) (hy : nat_abs y < 2000000000000000000) (hz : nat_abs z < 2000000000000000000) (hw : nat_abs w < 2000000000000000000) where
  pub first-held : SFits w64 (to_z w64 (of_z w64 x) +ℤ to_z w64 (of_z w64 y))
  first-held = two-held x y (omega arith)

  first_read : to_z w64 (of_z w64 (to_z w64 (of_z w64 x) +ℤ to_z w64 (of_z w64 y))) ≡ x +ℤ y
  first_read = two-read x y (omega arith)

  near-three : nat_abs (x +ℤ y) + nat_abs z < 9223372036854775808
  near-three = omega (arith, sum-within x y)

  near-four : nat_abs (x +ℤ y +ℤ z) + nat_abs w < 9223372036854775808
  near-four = omega (arith, sum-within x y, sum-within (x +ℤ y) z)

  again : to_z w64 (of_z w64 (x +ℤ y)) ≡ x +ℤ y
  again = to_z-of_z (held-near (x +ℤ y) (omega (arith, sum-within x y)))

  pub second-held : SFits w64 (to_z w64 (of_z w64 (to_z w64 (of_z w64 x) +ℤ to_z w64 (of_z w64 y))) +ℤ to_z w64 (of_z w64 z))
  second-held = rw (first_read, ← again) (two-held (x +ℤ y) z near-three)

  second-read : to_z w64 (of_z w64 (to_z w64 (of_z w64 (to_z w64 (of_z w64 x) +ℤ to_z w64 (of_z w64 y))) +ℤ to_z w64 (of_z w64 z))) ≡ x +ℤ y +ℤ z
  second-read = to_z-of_z second-held ∙ rw (first_read, to_z-of_z (held-near z (omega arith)))

  again-three : to_z w64 (of_z w64 (x +ℤ y +ℤ z)) ≡ x +ℤ y +ℤ z
  again-three = to_z-of_z (held-near (x +ℤ y +ℤ z) (omega (arith, sum-within x y, sum-within (x +ℤ y) z)))

  pub third-held : SFits w64 (to_z w64 (of_z w64 (to_z w64 (of_z w64 (to_z w64 (of_z w64 x) +ℤ to_z w64 (of_z w64 y))) +ℤ to_z w64 (of_z w64 z))) +ℤ to_z w64 (of_z w64 w))
  third-held = rw (second-read, ← again-three) (two-held (x +ℤ y +ℤ z) w near-four)

  pub four-read : to_z w64 (of_z w64 (to_z w64 (of_z w64 (to_z w64 (of_z w64 (to_z w64 (of_z w64 x) +ℤ to_z w64 (of_z w64 y))) +ℤ to_z w64 (of_z w64 z))) +ℤ to_z w64 (of_z w64 w))) ≡ x +ℤ y +ℤ z +ℤ w
  four-read = to_z-of_z third-held ∙ rw (second-read, to_z-of_z (held-near w (omega arith)))
