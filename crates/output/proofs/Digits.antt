-- Decimal digits: one after the other, how many there are, and the number that they come to.
-- Assumes nothing.
use Prim.Native.Nat.{ℕ, zero, suc, ◌+◌, ◌*◌, ◌/◌, ◌%◌, ◌^◌, ◌-◌, ◌≤◌, ◌<◌}
use mathlib.Core.Path.{◌≡◌, refl, sym, ap, ◌∙◌}
use mathlib.Core.Bool.{Bool, true, false}
use mathlib.Core.List.{List, [], ◌∷◌, ◌++◌}
use native.Mathlib.Nat.{pow-suc}
use native.Mathlib.Omega.{arith}
use borrow.Author.Tests.{lt-ltb, le-ltb, ltb-true, ltb-false}
use lib.ListN.{length, length-append}
use lib.Dec.{ltb}
use Rattle.output.specs.Decimal.{digits_in, decimal}

-- ---- a number's digits
module _ (f x : ℕ) where
  pub digits_last : x < 10 → digits_in (suc f) x ≡ (48 + x) ∷ []
  unfolding digits_in
  digits_last l = rw (lt-ltb x 10 l, digits_in)

  pub digits_more : 10 ≤ x → digits_in (suc f) x ≡ digits_in f (x / 10) ++ ((48 + x % 10) ∷ [])
  unfolding digits_in
  digits_more l = rw (le-ltb x 10 l, digits_in)

-- by any number that bounds it
digits_same : (f g x : ℕ) → x < f → x < g → digits_in f x ≡ digits_in g x
unfolding digits_in
digits_same zero g x l h = absurd (omega arith)
digits_same (suc f) zero x l h = absurd (omega arith)
digits_same (suc f) (suc g) x l h = go (digits_same f g (x / 10)) (ltb x 10) refl
  where
    go : (x / 10 < f → x / 10 < g → digits_in f (x / 10) ≡ digits_in g (x / 10)) → (t : Bool) → ltb x 10 ≡ t → digits_in (suc f) x ≡ digits_in (suc g) x
    go q true e = digits_last f x (ltb-true x 10 e) ∙ sym (digits_last g x (ltb-true x 10 e))
    go q false e =
        let m : 10 ≤ x = ltb-false x 10 e in
        rw (digits_more f x m, digits_more g x m, q (omega arith) (omega arith))

pub decimal-last : (x : ℕ) → x < 10 → decimal x ≡ (48 + x % 10) ∷ []
unfolding decimal
decimal-last x l = let e : x ≡ x % 10 = omega arith in digits_last x x l ∙ ap (λ (d : ℕ). (48 + d) ∷ []) e

pub decimal-more : (x : ℕ) → 10 ≤ x → decimal x ≡ decimal (x / 10) ++ ((48 + x % 10) ∷ [])
unfolding decimal
decimal-more x l = digits_more x x l ∙ rw (digits_same x (suc (x / 10)) (x / 10) (omega arith) (omega arith))

-- ---- how many there are
-- without its last digit a number of two or more takes one place less
shorter : (x k : ℕ) → 9 < x → x < 10 ^ suc k → (suc (k - 1) ≡ k) × (x / 10 < 10 ^ k)
shorter x zero l r = absurd (omega arith)
shorter x (suc k) l r = (omega arith, omega (arith, pow-suc 10 (suc k)))

digits-length : (f x k : ℕ) → x < 10 ^ suc k → length (digits_in f x) ≤ suc k
unfolding digits_in
digits-length zero x k l = omega arith
digits-length (suc f) x k l = go (digits-length f (x / 10)) (ltb x 10) refl
  where
    go : ((j : ℕ) → x / 10 < 10 ^ suc j → length (digits_in f (x / 10)) ≤ suc j) → (t : Bool) → ltb x 10 ≡ t → length (digits_in (suc f) x) ≤ suc k
    go h true e = rw (digits_last f x (ltb-true x 10 e)) (omega arith)
    go h false e =
        let less : (suc (k - 1) ≡ k) × (x / 10 < 10 ^ k) = shorter x k (ltb-false x 10 e) l in
        rw (digits_more f x (ltb-false x 10 e))
        (omega (arith, length-append (digits_in f (x / 10)) ((48 + x % 10) ∷ []), h (k - 1) (rw less.0 less.1), less.0))

pub decimal-length : (x k : ℕ) → x < 10 ^ suc k → length (decimal x) ≤ suc k
unfolding decimal
decimal-length x = digits-length (suc x) x

-- ---- the number that they come to
-- reading them from the front, with n for those before
unfoldable pub value_from : ℕ → List ℕ → ℕ
value_from n [] = n
value_from n (d ∷ s) = value_from (n * 10 + (d - 48)) s

value-snoc : (n : ℕ) (s : List ℕ) (d : ℕ) → value_from n (s ++ (d ∷ [])) ≡ value_from n s * 10 + (d - 48)
unfolding value_from
value-snoc n [] d = refl
value-snoc n (a ∷ s) d = value-snoc (n * 10 + (a - 48)) s d

digits_value : (f x : ℕ) → x < f → value_from 0 (digits_in f x) ≡ x
unfolding value_from
digits_value zero x l = absurd (omega arith)
digits_value (suc f) x l = go (digits_value f (x / 10)) (ltb x 10) refl
  where
    go : (x / 10 < f → value_from 0 (digits_in f (x / 10)) ≡ x / 10) → (t : Bool) → ltb x 10 ≡ t → value_from 0 (digits_in (suc f) x) ≡ x
    go h true e = rw (digits_last f x (ltb-true x 10 e)) (omega arith)
    go h false e =
        let m : 10 ≤ x = ltb-false x 10 e in
        rw (digits_more f x m, value-snoc 0 (digits_in f (x / 10)) (48 + x % 10), h (omega arith)) (omega arith)

pub decimal-value : (x : ℕ) → value_from 0 (decimal x) ≡ x
unfolding decimal
decimal-value x = digits_value (suc x) x (omega arith)

pub decimal-same : (x y : ℕ) → decimal x ≡ decimal y → x ≡ y
decimal-same x y e = sym (decimal-value x) ∙ ap (value_from 0) e ∙ decimal-value y
