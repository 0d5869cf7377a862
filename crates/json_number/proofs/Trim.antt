-- A number and the zeros at its end: each number but zero is in one way a number that ends in no zero, times a power of ten.
-- Assumes nothing.
use Prim.Native.Nat.{ℕ, zero, suc, ◌+◌, ◌*◌, ◌/◌, ◌%◌, ◌^◌, ◌≤◌, ◌<◌}
use mathlib.Core.Path.{◌≡◌, refl, sym, ap, ◌∙◌}
use native.Mathlib.Nat.{mul-one, pow-zero, pow-suc, mul_assoc, mul-mod_left, mul-div_left, mul-le-mul, zero-mul}
use native.Mathlib.Decide.{ℕ_discrete}
use native.Mathlib.Numerals.{add-one}
use native.Mathlib.Omega.{arith}
use borrow.Author.Tests.{eq-eqb, ne_eqb}
use lib.Dec.{lit<}
use Rattle.json_number.specs.Number.{zeros_within, end_zeros, trimmed}
use Rattle.json_number.proofs.Scale.{ten-pos}

-- c is v, which ends in no zero, with z zeros behind it
pub record Trimmed (c v z : ℕ) : Type 0 where
  pub whole : c ≡ v * 10 ^ z
  pub last : v % 10 ≡ 0 → ⊥

-- ---- The count
zeros-none : (most c : ℕ) → (c % 10 ≡ 0 → ⊥) → zeros_within most c ≡ 0
unfolding zeros_within
zeros-none zero c n = refl
zeros-none (suc most) c n = rw (ne_eqb (c % 10) 0 n, zeros_within)

zeros-more : (most c : ℕ) → c % 10 ≡ 0 → zeros_within (suc most) c ≡ suc (zeros_within most (c / 10))
unfolding zeros_within
zeros-more most c e = rw (eq-eqb (c % 10) 0 e, zeros_within)

one_more : (v z : ℕ) → v * 10 ^ suc z ≡ v * 10 ^ z * 10
one_more v z = rw (pow-suc 10 z) (sym (mul_assoc v (10 ^ z) 10))

zeros-are : (z most v : ℕ) → (v % 10 ≡ 0 → ⊥) → z ≤ most → zeros_within most (v * 10 ^ z) ≡ z
zeros-are zero most v n l = rw (pow-zero 10, mul-one v) (zeros-none most v n)
zeros-are (suc z) zero v n l = absurd (omega arith)
zeros-are (suc z) (suc most) v n l =
    ap (zeros_within (suc most)) (one_more v z) ∙
    zeros-more most (v * 10 ^ z * 10) (mul-mod_left (v * 10 ^ z) 10) ∙
    ap (λ (x : ℕ). suc (zeros_within most x)) (mul-div_left (v * 10 ^ z) (lit< tt)) ∙
    ap suc (zeros-are z most v n (omega arith))

-- a number counts more than the zeros at its end
tens : (z : ℕ) → z < 10 ^ z
tens zero = ten-pos 0 refl
tens (suc z) = rw (pow-suc 10 z) (omega (arith, tens z))

enough : (v z : ℕ) → (v % 10 ≡ 0 → ⊥) → z ≤ v * 10 ^ z
enough v z n = go (ℕ_discrete v 0)
  where
    go : Dec (v ≡ 0) → z ≤ v * 10 ^ z
    go (yes e) = absurd (n (rw e refl))
    go (no h) =
        let one : 1 ≤ v = omega arith in
        let most : z ≤ 10 ^ z = omega (arith, tens z) in
        omega (arith, mul-le-mul one most)

module _ {c v z : ℕ} (t : Trimmed c v z) where
  pub zeros_of : end_zeros c ≡ z
  zeros_of = ap (λ (x : ℕ). zeros_within x x) t.whole ∙ zeros-are z (v * 10 ^ z) v t.last (enough v z t.last)

  pub trimmed-of : trimmed c ≡ v
  trimmed-of = ap (λ (k : ℕ). c / 10 ^ k) zeros_of ∙ ap (λ (x : ℕ). x / 10 ^ z) t.whole ∙ mul-div_left v (ten-pos z refl)

  -- a zero more
  pub zero-behind : Trimmed (c * 10) v (z + 1)
  zero-behind = record { whole = ap (λ (x : ℕ). x * 10) t.whole ∙ sym (one_more v z) ∙ ap (λ (k : ℕ). v * 10 ^ k) (sym (add-one z)); last = t.last }

-- no zero
pub no_zero : (c : ℕ) → (c % 10 ≡ 0 → ⊥) → Trimmed c c 0
no_zero c n = record { whole = sym (mul-one c); last = n }

-- in one way only
pub one_way : {c v z w y : ℕ} → Trimmed c v z → Trimmed c w y → (v ≡ w) × (z ≡ y)
one_way t u = (sym (trimmed-of t) ∙ trimmed-of u, sym (zeros_of t) ∙ zeros_of u)

-- ---- Each number but zero has a form
known : {c v z : ℕ} → Trimmed c v z → Trimmed c (trimmed c) (end_zeros c)
known {c} {v} {z} t = record { whole = t.whole ∙ sym (ap (λ (x : ℕ). x * 10 ^ end_zeros c) (trimmed-of t) ∙ ap (λ (k : ℕ). v * 10 ^ k) (zeros_of t)); last = λ e. t.last (ap (λ (x : ℕ). x % 10) (sym (trimmed-of t)) ∙ e) }

some-way : (most c : ℕ) → (c ≡ 0 → ⊥) → c ≤ most → Trimmed c (trimmed c) (end_zeros c)
some-way zero c n l = absurd (n (omega arith))
some-way (suc most) c n l = go (ℕ_discrete (c % 10) 0) (λ m k. some-way most (c / 10) m k)
  where
    go : Dec (c % 10 ≡ 0) → ((c / 10 ≡ 0 → ⊥) → c / 10 ≤ most → Trimmed (c / 10) (trimmed (c / 10)) (end_zeros (c / 10))) → Trimmed c (trimmed c) (end_zeros c)
    go (no h) f = known (no_zero c h)
    go (yes h) f =
        let t : Trimmed (c / 10) (trimmed (c / 10)) (end_zeros (c / 10)) = f (omega arith) (omega arith) in
        let tenth : c ≡ c / 10 * 10 = omega arith in
        known (record { whole = tenth ∙ (zero-behind t).whole; last = t.last })

pub trims : (c : ℕ) → (c ≡ 0 → ⊥) → Trimmed c (trimmed c) (end_zeros c)
trims c n = some-way c c n (omega arith)

-- ---- Zero
pub zeros-zero : end_zeros 0 ≡ 0
unfolding zeros_within
zeros-zero = refl

pub trimmed-zero : trimmed 0 ≡ 0
unfolding zeros_within
trimmed-zero = refl

pub trimmed-nonzero : (c : ℕ) → (c ≡ 0 → ⊥) → trimmed c ≡ 0 → ⊥
trimmed-nonzero c n e = (trims c n).last (rw e refl)

-- ---- The form loses nothing
pub trimmed-whole : (c : ℕ) → trimmed c * 10 ^ end_zeros c ≡ c
trimmed-whole c = go (ℕ_discrete c 0)
  where
    go : Dec (c ≡ 0) → trimmed c * 10 ^ end_zeros c ≡ c
    go (yes z) = ap (λ (x : ℕ). trimmed x * 10 ^ end_zeros x) z ∙ ap (λ (x : ℕ). x * 10 ^ end_zeros 0) trimmed-zero ∙ zero-mul (10 ^ end_zeros 0) ∙ sym z
    go (no n) = sym (trims c n).whole

-- ---- One digit is its own form
pub one-digit : (c : ℕ) → c ≤ 9 → (trimmed c ≡ c) × (end_zeros c ≡ 0)
one-digit c l = go (ℕ_discrete c 0)
  where
    go : Dec (c ≡ 0) → (trimmed c ≡ c) × (end_zeros c ≡ 0)
    go (yes z) = (ap trimmed z ∙ trimmed-zero ∙ sym z, ap end_zeros z ∙ zeros-zero)
    go (no n) =
        let rest : c % 10 ≡ 0 → ⊥ = omega arith in
        (trimmed-of (no_zero c rest), zeros_of (no_zero c rest))
