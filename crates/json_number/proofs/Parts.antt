-- The parts of a number, each by the bytes and runs of digits that the code has looked at.
-- Assumes nothing.
use Rattle.std.specs.Prelude.{Ok}
use Prim.Native.Nat.{ℕ, ◌+◌, ◌-◌, ◌^◌, ◌≤◌, ◌<◌, min}
use mathlib.Core.Path.{◌≡◌, refl, ap}
use mathlib.Core.Bool.{Bool, true, false}
use mathlib.Core.List.{List}
use native.Mathlib.Omega.{arith}
use borrow.Author.Tests.{eq-eqb, ne_eqb}
use lib.ListN.{drop}
use Rattle.json_bytes.specs.Reads.{byte_at}
use Rattle.json_number.specs.Number.{digits_at, formed, trimmed_at, fraction_at, coefficient_at, power_digits_at, signed_at, exponent_at, value_of, stopped_at, with_exponent, with_coefficient, number_at}
use Rattle.json_number.specs.Capped.{cap, capped_coefficient, capped_exponent, Carried}
use Rattle.json_number.specs.declared.Coefficient.{Coefficient}
use Rattle.json_number.specs.declared.Coefficient.TheVariants.{Digits, NoDigit}
use Rattle.json_number.specs.declared.Exponent.{Exponent}
use Rattle.json_number.specs.declared.Value.{Value}
use Rattle.json_number.specs.declared.Exponent.TheVariants.{Power, NoPower}
use Rattle.json_number.proofs.Digits.{run_none, run-some}
use Rattle.json_number.proofs.Limits.{c-capped, e-capped}

-- ---- The fraction, by the byte b that stands where its point would, behind digits that form x
module _ (s : List ℕ) (i b : ℕ) (is : b ≡ byte_at s i) (x : ℕ) where
  pub fraction-none : (b ≡ 46 → ⊥) → fraction_at s i x ≡ trimmed_at i x 0
  unfolding fraction_at
  fraction-none n = rw (← is, ne_eqb b 46 n)

  pub fraction-absent : (b ≡ 46 → ⊥) → {value kept trailing : ℕ} → Carried x value kept trailing → Digits i kept trailing 0 ≡ capped_coefficient (fraction_at s i x)
  fraction-absent n h = rw (fraction-none n, h.1, h.2)

  pub fraction-empty : b ≡ 46 → {end : ℕ} → end ≡ i + 1 + digits_at s (i + 1) → end ≡ i + 1 → NoDigit (i + 1) ≡ capped_coefficient (fraction_at s i x)
  unfolding fraction_at
  fraction-empty e r h = rw (← is, eq-eqb b 46 e, run_none (digits_at s (i + 1)) r h)

  pub fraction-stands : b ≡ 46 → {end value kept trailing : ℕ} → end ≡ i + 1 + digits_at s (i + 1) → Carried (formed x (drop (i + 1) s)) value kept trailing → (end ≡ i + 1 → ⊥) → Digits end kept trailing (end - (i + 1)) ≡ capped_coefficient (fraction_at s i x)
  unfolding fraction_at
  fraction-stands e {end} r f h =
      let n : end - (i + 1) ≡ digits_at s (i + 1) = omega arith in
      rw (← is, eq-eqb b 46 e, run-some (digits_at s (i + 1)) r h, n, r, f.1, f.2)

-- ---- The coefficient, by its first byte b
module _ (s : List ℕ) (i b : ℕ) (is : b ≡ byte_at s i) where
  pub zero-alone : b ≡ 48 → coefficient_at s i ≡ fraction_at s (i + 1) 0
  unfolding coefficient_at
  zero-alone e = rw (← is, eq-eqb b 48 e)

  pub no-digits : (b ≡ 48 → ⊥) → {end : ℕ} → end ≡ i + digits_at s i → end ≡ i → coefficient_at s i ≡ NoDigit i
  unfolding coefficient_at
  no-digits n r h = rw (← is, ne_eqb b 48 n, run_none (digits_at s i) r h)

  pub some-digits : (b ≡ 48 → ⊥) → {end : ℕ} → end ≡ i + digits_at s i → (end ≡ i → ⊥) → coefficient_at s i ≡ fraction_at s end (formed 0 (drop i s))
  unfolding coefficient_at
  some-digits n r h = rw (← is, ne_eqb b 48 n, run-some (digits_at s i) r h, ← r)

-- ---- The exponent
module _ (s : List ℕ) (i : ℕ) (below : Bool) where
  pub power-empty : {end : ℕ} → end ≡ i + digits_at s i → end ≡ i → NoPower i ≡ capped_exponent (power_digits_at s i below)
  unfolding power_digits_at
  power-empty r h = rw (run_none (digits_at s i) r h)

  pub power-stands : {end v : ℕ} → end ≡ i + digits_at s i → v ≡ min (formed 0 (drop i s)) cap → (end ≡ i → ⊥) → Power end below v ≡ capped_exponent (power_digits_at s i below)
  unfolding power_digits_at
  power-stands r f h = rw (run-some (digits_at s i) r h, r, f)

-- by the byte b where its sign would stand
module _ (s : List ℕ) (i b : ℕ) (is : b ≡ byte_at s i) where
  pub signed-minus : b ≡ 45 → signed_at s i ≡ power_digits_at s (i + 1) true
  unfolding signed_at
  signed-minus e = rw (← is, eq-eqb b 45 e)

  pub signed-plus : (b ≡ 45 → ⊥) → b ≡ 43 → signed_at s i ≡ power_digits_at s (i + 1) false
  unfolding signed_at
  signed-plus n e = rw (← is, ne_eqb b 45 n, eq-eqb b 43 e)

  pub signed-none : (b ≡ 45 → ⊥) → (b ≡ 43 → ⊥) → signed_at s i ≡ power_digits_at s i false
  unfolding signed_at
  signed-none n m = rw (← is, ne_eqb b 45 n, ne_eqb b 43 m)

-- by the byte b where its letter would stand
module _ (s : List ℕ) (i b : ℕ) (is : b ≡ byte_at s i) where
  pub letter-small : b ≡ 101 → exponent_at s i ≡ signed_at s (i + 1)
  unfolding exponent_at
  letter-small e = rw (← is, eq-eqb b 101 e)

  pub letter-large : (b ≡ 101 → ⊥) → b ≡ 69 → exponent_at s i ≡ signed_at s (i + 1)
  unfolding exponent_at
  letter-large n e = rw (← is, ne_eqb b 101 n, eq-eqb b 69 e)

  pub letter-none : (b ≡ 101 → ⊥) → (b ≡ 69 → ⊥) → exponent_at s i ≡ Power i false 0
  unfolding exponent_at
  letter-none n m = rw (← is, ne_eqb b 101 n, ne_eqb b 69 m)

-- ---- The number, from the parts that the code has kept
pub exponent-bound : (x : Exponent) {r : Exponent} {end : ℕ} {below : Bool} {e : ℕ} → r ≡ capped_exponent x → r ≡ Power end below e → e ≤ cap
exponent-bound (Power end' below' e') {r} {end} {below} {e} q w =
    let same : e ≡ min e' cap = cc in
    omega arith
exponent-bound (NoPower p) {r} {end} {below} {e} q w =
    let z : ◌≡◌ {A = ℕ} 0 1 = cc in
    omega arith

module _ (negative : Bool) (c trailing fraction : ℕ) where
  pub exponent-stands : trailing < 2 ^ 63 → fraction < 2 ^ 63 → (x : Exponent) {r : Exponent} {end : ℕ} {below : Bool} {e : ℕ} {v : Value} → r ≡ capped_exponent x → r ≡ Power end below e → v ≡ value_of negative c trailing fraction below e → record { reading = Ok end; value = v } ≡ with_exponent negative c trailing fraction x
  unfolding with_exponent
  exponent-stands k f (Power end' below' e') {r} {end} {below} {e} {v} q w h =
      let ends : end ≡ end' = cc in
      let signs : below ≡ below' = cc in
      let sizes : e ≡ min e' cap = cc in
      rw (ends, h, signs, sizes, e-capped negative c trailing fraction below' e' k f)
  exponent-stands k f (NoPower p) {r} {end} {below} {e} {v} q w h =
      let z : ◌≡◌ {A = ℕ} 0 1 = cc in
      absurd (omega arith)

  pub exponent-stops : (x : Exponent) {r : Exponent} {place : ℕ} → r ≡ capped_exponent x → r ≡ NoPower place → stopped_at place ≡ with_exponent negative c trailing fraction x
  unfolding with_exponent
  exponent-stops (Power end below e) {r} {place} q w =
      let z : ◌≡◌ {A = ℕ} 0 1 = cc in
      absurd (omega arith)
  exponent-stops (NoPower p) {r} {place} q w =
      let places : place ≡ p = cc in
      ap stopped_at places

  pub exponent-c-capped : (x : Exponent) → with_exponent negative (min c cap) trailing fraction x ≡ with_exponent negative c trailing fraction x
  unfolding with_exponent
  exponent-c-capped (Power end below e) = rw (c-capped negative c trailing fraction below e)
  exponent-c-capped (NoPower p) = refl

module _ (s : List ℕ) (negative : Bool) where
  pub coefficient-stands : (k : Coefficient) {r : Coefficient} {end c trailing fraction : ℕ} → r ≡ capped_coefficient k → r ≡ Digits end c trailing fraction → with_exponent negative c trailing fraction (exponent_at s end) ≡ with_coefficient s negative k
  unfolding with_coefficient
  coefficient-stands (Digits end' c' trailing' fraction') {r} {end} {c} {trailing} {fraction} q w =
      let ends : end ≡ end' = cc in
      let sizes : c ≡ min c' cap = cc in
      let ending : trailing ≡ trailing' = cc in
      let counts : fraction ≡ fraction' = cc in
      rw (ends, sizes, ending, counts) (exponent-c-capped negative c' trailing' fraction' (exponent_at s end'))
  coefficient-stands (NoDigit p) {r} {end} {c} {trailing} {fraction} q w =
      let z : ◌≡◌ {A = ℕ} 0 1 = cc in
      absurd (omega arith)

  pub coefficient-stops : (k : Coefficient) {r : Coefficient} {place : ℕ} → r ≡ capped_coefficient k → r ≡ NoDigit place → stopped_at place ≡ with_coefficient s negative k
  unfolding with_coefficient
  coefficient-stops (Digits end c trailing fraction) {r} {place} q w =
      let z : ◌≡◌ {A = ℕ} 0 1 = cc in
      absurd (omega arith)
  coefficient-stops (NoDigit p) {r} {place} q w =
      let places : place ≡ p = cc in
      ap stopped_at places

-- by the byte b where the sign would stand
module _ (s : List ℕ) (at b : ℕ) (is : b ≡ byte_at s at) where
  pub number-minus : b ≡ 45 → number_at s at ≡ with_coefficient s true (coefficient_at s (at + 1))
  unfolding number_at
  number-minus e = rw (← is, eq-eqb b 45 e)

  pub number-plain : (b ≡ 45 → ⊥) → number_at s at ≡ with_coefficient s false (coefficient_at s at)
  unfolding number_at
  number-plain n = rw (← is, ne_eqb b 45 n)
