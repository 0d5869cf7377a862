-- Where the parts of a number end or stop.
-- Assumes nothing.
use Rattle.std.specs.Prelude.{Ok, Err}
use Prim.Native.Nat.{ℕ, ◌+◌, ◌-◌, ◌≤◌, ◌<◌}
use mathlib.Core.Path.{◌≡◌, refl}
use mathlib.Core.Bool.{Bool, true, false, cond, ◌||◌}
use mathlib.Core.List.{List}
use native.Mathlib.Omega.{arith}
use borrow.Author.Tests.{eqb-true, eqb-false}
use lib.ListN.{length, drop, length-drop}
use lib.Dec.{eqb, lit<}
use Rattle.json_bytes.specs.Reads.{byte_at, Reading}
use Rattle.json_bytes.proofs.Laws.{by-test, inside, leading-bound}
use Rattle.json_number.specs.Number.{
  is_digit,
  digits_at,
  formed,
  end_zeros,
  fraction_at,
  coefficient_at,
  power_digits_at,
  signed_at,
  exponent_at,
  with_exponent,
  with_coefficient,
  number_at,
}
use Rattle.json_number.specs.Capped.{capped_coefficient}
use Rattle.json_number.specs.declared.Coefficient.{Coefficient}
use Rattle.json_number.specs.declared.Coefficient.TheVariants.{Digits, NoDigit}
use Rattle.json_number.specs.declared.Exponent.{Exponent}
use Rattle.json_number.specs.declared.Exponent.TheVariants.{Power, NoPower}
use Rattle.json_number.specs.declared.Number.{Number}
use Rattle.json_number.proofs.Trim.{zeros-zero}
use Rattle.json_number.proofs.Digits.{formed-zeros}

-- a run of digits stays within the file
pub digits-room : (s : List ℕ) (i : ℕ) → digits_at s i ≤ length s - i
digits-room s i = rw (← length-drop i s) (leading-bound is_digit (drop i s))

-- a place whose byte is told from 0 has one behind it, or the end
stands : (s : List ℕ) (i b : ℕ) → eqb (byte_at s i) b ≡ true → 0 < b → i + 1 ≤ length s
stands s i b e h = omega (arith, inside s i b (eqb-true (byte_at s i) b e) h)

-- ---- A part that began at j or behind it, in a file of bytes s: it ends behind j and within the file, or stops at a place
-- from j on and, if j is a place of the file or its end, so is that one
abbrev pub CoefficientIn : List ℕ → ℕ → Coefficient → Type 0
CoefficientIn s j (Digits end c zeros fraction) = (j < end) × (end ≤ length s) × (fraction ≤ length s) × (zeros ≤ length s)
CoefficientIn s j (NoDigit place) = (j ≤ place) × (j ≤ length s → place ≤ length s)

abbrev ExponentIn : List ℕ → ℕ → Exponent → Type 0
ExponentIn s j (Power end below e) = (j < end) × (end ≤ length s)
ExponentIn s j (NoPower place) = (j ≤ place) × (place ≤ length s)

abbrev pub ReadingIn : List ℕ → ℕ → Reading → Type 0
ReadingIn s j (Ok end) = (j < end) × (end ≤ length s)
ReadingIn s j (Err e) = (j ≤ e.place) × (j ≤ length s → e.place ≤ length s)

fraction-in : (s : List ℕ) (j i c : ℕ) → j < i → i ≤ length s → end_zeros c ≤ i → CoefficientIn s j (fraction_at s i c)
unfolding fraction_at
fraction-in s j i c l h k =
    by-test (CoefficientIn s j) (eqb (byte_at s i) 46) _ _
    (λ e.
    by-test (CoefficientIn s j) (eqb (digits_at s (i + 1)) 0) _ _
    (λ z. (omega arith, λ g. stands s i 46 e (lit< tt)))
    (λ z.
    omega
    (arith, digits-room s (i + 1), eqb-false (digits_at s (i + 1)) 0 z, formed-zeros (drop (i + 1) s) c)))
    (λ e. omega arith)

pub coefficient-in : (s : List ℕ) (i : ℕ) → CoefficientIn s i (coefficient_at s i)
unfolding coefficient_at
coefficient-in s i =
    by-test (CoefficientIn s i) (eqb (byte_at s i) 48) _ _
    (λ e. fraction-in s i (i + 1) 0 (omega arith) (stands s i 48 e (lit< tt)) (omega (arith, zeros-zero)))
    (λ e.
    by-test (CoefficientIn s i) (eqb (digits_at s i) 0) _ _
    (λ z. (omega arith, λ g. g))
    (λ z.
    let some : digits_at s i ≡ 0 → ⊥ = eqb-false (digits_at s i) 0 z in
    fraction-in s i (i + digits_at s i) (formed 0 (drop i s)) (omega arith) (omega (arith, digits-room s i))
    (omega (arith, zeros-zero, formed-zeros (drop i s) 0))))

power_in : (s : List ℕ) (j i : ℕ) (below : Bool) → j ≤ i → i ≤ length s → ExponentIn s j (power_digits_at s i below)
unfolding power_digits_at
power_in s j i below l h =
    by-test (ExponentIn s j) (eqb (digits_at s i) 0) _ _
    (λ z. (l, h))
    (λ z. omega (arith, digits-room s i, eqb-false (digits_at s i) 0 z))

signed-in : (s : List ℕ) (j i : ℕ) → j ≤ i → i ≤ length s → ExponentIn s j (signed_at s i)
unfolding signed_at
signed-in s j i l h =
    by-test (ExponentIn s j) (eqb (byte_at s i) 45) _ _
    (λ e. power_in s j (i + 1) true (omega arith) (stands s i 45 e (lit< tt)))
    (λ n.
    by-test (ExponentIn s j) (eqb (byte_at s i) 43) _ _
    (λ e. power_in s j (i + 1) false (omega arith) (stands s i 43 e (lit< tt)))
    (λ m. power_in s j i false l h))

exponent-in : (s : List ℕ) (j i : ℕ) → j < i → i ≤ length s → ExponentIn s j (exponent_at s i)
unfolding exponent_at
exponent-in s j i l h = go (eqb (byte_at s i) 101) refl (eqb (byte_at s i) 69) refl
  where
    go : (t : Bool) → eqb (byte_at s i) 101 ≡ t → (u : Bool) → eqb (byte_at s i) 69 ≡ u → ExponentIn s j (cond (t || u) (signed_at s (i + 1)) (Power i false 0))
    go true e u f = signed-in s j (i + 1) (omega arith) (stands s i 101 e (lit< tt))
    go false e true f = signed-in s j (i + 1) (omega arith) (stands s i 69 f (lit< tt))
    go false e false f = (l, h)

-- ---- The number
with_in : (s : List ℕ) (negative : Bool) (j : ℕ) (k : Coefficient) → CoefficientIn s j k → ReadingIn s j (with_coefficient s negative k).reading
unfolding with_coefficient with_exponent
with_in s negative j (NoDigit place) h = h
with_in s negative j (Digits end c zeros fraction) h = go (exponent_at s end) (exponent-in s j end h.0 h.1)
  where
    go : (x : Exponent) → ExponentIn s j x → ReadingIn s j (with_exponent negative c zeros fraction x).reading
    go (Power e below n) g = g
    go (NoPower place) g = (g.0, λ _. g.1)

-- behind a minus sign
behind : (s : List ℕ) (j : ℕ) (k : Coefficient) → j + 1 ≤ length s → CoefficientIn s (j + 1) k → CoefficientIn s j k
behind s j (Digits end c zeros fraction) l h = omega arith
behind s j (NoDigit place) l h = (omega arith, λ _. h.1 (omega arith))

pub number-in : (s : List ℕ) (at : ℕ) → ReadingIn s at (number_at s at).reading
unfolding number_at
number-in s at =
    by-test (λ (n : Number). ReadingIn s at n.reading) (eqb (byte_at s at) 45) _ _
    (λ e.
    with_in s true at (coefficient_at s (at + 1))
    (behind s at (coefficient_at s (at + 1)) (stands s at 45 e (lit< tt)) (coefficient-in s (at + 1))))
    (λ n. with_in s false at (coefficient_at s at) (coefficient-in s at))

-- the zeros and the fraction digits are at most as many as the file's bytes, and so beside any exponent that the code keeps
pub counts-room : (s : List ℕ) (i : ℕ) {r : Coefficient} {end c zeros fraction : ℕ} → r ≡ capped_coefficient (coefficient_at s i) → r ≡ Digits end c zeros fraction → (zeros ≤ length s) × (fraction ≤ length s)
counts-room s i {r} {end} {c} {zeros} {fraction} q w = go (coefficient_at s i) (coefficient-in s i) q
  where
    go : (k : Coefficient) → CoefficientIn s i k → r ≡ capped_coefficient k → (zeros ≤ length s) × (fraction ≤ length s)
    go (Digits end' c' zeros' fraction') h p =
        let ending : zeros ≡ zeros' = cc in
        let counts : fraction ≡ fraction' = cc in
        omega arith
    go (NoDigit place) h p =
        let z : ◌≡◌ {A = ℕ} 0 1 = cc in
        absurd (omega arith)
