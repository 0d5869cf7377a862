-- A number of one digit: what follows does not go on, so the digit is all of it.
-- Assumes nothing.
use Rattle.std.specs.Prelude.{Ok}
use Prim.Native.Nat.{ℕ, ◌+◌, ◌*◌, ◌-◌, ◌≤◌, ◌<◌}
use mathlib.Core.Path.{◌≡◌, refl, sym, ap, ◌∙◌}
use mathlib.Core.Bool.{Bool, true, false, ◌||◌}
use mathlib.Core.List.{List}
use native.Mathlib.Decide.{ℕ_discrete, dec_le}
use native.Mathlib.Omega.{arith}
use borrow.Author.Tests.{ne_eqb, eqb-false}
use lib.ListN.{length, drop}
use lib.Dec.{eqb, lit≤}
use Rattle.json_bytes.specs.Reads.{byte_at}
use Rattle.json_bytes.proofs.Laws.{inside, by-test, run_more, run-stops, run_ends}
use Rattle.json_number.specs.Number.{is_digit, digits_at, formed, trimmed_at, fraction_at, coefficient_at, exponent_at, largest, within_limits, value_of, with_exponent, with_coefficient, number_at, whole_of, integer_of}
use Rattle.json_number.specs.Alone.{goes_on, one_digit}
use Rattle.json_number.specs.declared.Coefficient.TheVariants.{Digits}
use Rattle.json_number.specs.declared.Exponent.TheVariants.{Power}
use Rattle.json_number.specs.declared.Value.{Value}
use Rattle.json_number.specs.declared.Value.TheVariants.{Fits}
use Rattle.json_number.specs.declared.Number.{Number}
use Rattle.json_number.specs.declared.Integer.TheVariants.{Is}
use Rattle.json_number.proofs.Scale.{whole-zero, whole-raised}
use Rattle.json_number.proofs.Limits.{limited-is, value-within}
use Rattle.json_number.proofs.Trim.{one-digit}
use Rattle.json_number.proofs.Digits.{digit-range, formed-more, formed-stops, formed-ends}
use Rattle.json_number.proofs.Parts.{zero-alone, some-digits, fraction-none, letter-none, number-plain}

-- ---- A byte with which no number goes on
neither : (a b : Bool) → (a || b) ≡ false → (a ≡ false) × (b ≡ false)
neither true b e = (e, cc)
neither false b e = (refl, e)

record Off (b : ℕ) : Type 0 where
  pub digit : is_digit b ≡ false
  pub point : b ≡ 46 → ⊥
  pub small : b ≡ 101 → ⊥
  pub large : b ≡ 69 → ⊥

off : (b : ℕ) → goes_on b ≡ false → Off b
unfolding goes_on
off b e =
    let d : (is_digit b ≡ false) × ((eqb b 46 || (eqb b 101 || eqb b 69)) ≡ false) = neither _ _ e in
    let p : (eqb b 46 ≡ false) × ((eqb b 101 || eqb b 69) ≡ false) = neither _ _ d.1 in
    let l : (eqb b 101 ≡ false) × (eqb b 69 ≡ false) = neither _ _ p.1 in
    record { digit = d.0; point = eqb-false b 46 p.0; small = eqb-false b 101 l.0; large = eqb-false b 69 l.1 }

-- ---- The digits
-- a digit is a byte of the file
pub digit-inside : (s : List ℕ) (i : ℕ) {b : ℕ} → b ≡ byte_at s i → is_digit b ≡ true → i < length s
digit-inside s i {b} is d = inside s i b (sym is) (omega (arith, (digit-range b d).0))

module _ (s : List ℕ) (i : ℕ) (d : is_digit (byte_at s i) ≡ true) where
  here : i < length s
  here = digit-inside s i refl d

  module _ (n : is_digit (byte_at s (i + 1)) ≡ false) where
    -- no digit stands behind this one, whether a byte does or the file ends
    one-ends : i + digits_at s i ≡ i + 1
    one-ends = run_more is_digit s i here d ∙ go (dec_le (length s) (i + 1))
      where
        go : Dec (length s ≤ i + 1) → i + 1 + digits_at s (i + 1) ≡ i + 1
        go (yes l) = run_ends is_digit s (i + 1) l
        go (no l) = run-stops is_digit s (i + 1) (omega arith) n

    one-forms : formed 0 (drop i s) ≡ byte_at s i - 48
    one-forms = formed-more s i 0 here d ∙ go (dec_le (length s) (i + 1)) ∙ omega arith
      where
        go : Dec (length s ≤ i + 1) → formed (0 * 10 + (byte_at s i - 48)) (drop (i + 1) s) ≡ 0 * 10 + (byte_at s i - 48)
        go (yes l) = formed-ends s (i + 1) _ l
        go (no l) = formed-stops s (i + 1) _ (omega arith) n

    -- a zero and any other digit alike
    one-coefficient : coefficient_at s i ≡ fraction_at s (i + 1) (byte_at s i - 48)
    one-coefficient = go (ℕ_discrete (byte_at s i) 48)
      where
        go : Dec (byte_at s i ≡ 48) → coefficient_at s i ≡ fraction_at s (i + 1) (byte_at s i - 48)
        go (yes z) =
            let none : 0 ≡ byte_at s i - 48 = omega arith in
            zero-alone s i (byte_at s i) refl z ∙ ap (fraction_at s (i + 1)) none
        go (no z) =
            some-digits s i (byte_at s i) refl z (sym one-ends) (omega arith) ∙ ap (fraction_at s (i + 1)) one-forms

pub digit-coefficient : (s : List ℕ) (i : ℕ) → is_digit (byte_at s i) ≡ true → is_digit (byte_at s (i + 1)) ≡ false → coefficient_at s i ≡ fraction_at s (i + 1) (byte_at s i - 48)
digit-coefficient s i d n = one-coefficient s i d n

-- ---- The number
pub digit-alone : (s : List ℕ) (negative : Bool) (i : ℕ) → is_digit (byte_at s i) ≡ true → goes_on (byte_at s (i + 1)) ≡ false → with_coefficient s negative (coefficient_at s i) ≡ record { reading = Ok (i + 1); value = value_of negative (byte_at s i - 48) 0 0 false 0 }
unfolding with_coefficient with_exponent
digit-alone s negative i d n =
    let o : Off (byte_at s (i + 1)) = off (byte_at s (i + 1)) n in
    let most : byte_at s i - 48 ≤ 9 = omega (arith, (digit-range (byte_at s i) d).1) in
    let form : trimmed_at (i + 1) (byte_at s i - 48) 0 ≡ Digits (i + 1) (byte_at s i - 48) 0 0 = rw ((one-digit (byte_at s i - 48) most).0, (one-digit (byte_at s i - 48) most).1) in
    let k : coefficient_at s i ≡ Digits (i + 1) (byte_at s i - 48) 0 0 = one-coefficient s i d o.digit ∙ fraction-none s (i + 1) _ refl (byte_at s i - 48) o.point ∙ form in
    let x : exponent_at s (i + 1) ≡ Power (i + 1) false 0 = letter-none s (i + 1) _ refl o.small o.large in
    ap (with_coefficient s negative) k ∙ ap (with_exponent negative (byte_at s i - 48) 0 0) x

-- the same from what the code has in hand: the digit b, the byte n behind it, and the value v of b as a wider number w
pub alone-is : (s : List ℕ) (negative : Bool) (i : ℕ) {b n w : ℕ} {v : Value} → b ≡ byte_at s i → is_digit b ≡ true → n ≡ byte_at s (i + 1) → goes_on n ≡ false → w ≡ b → v ≡ value_of negative (w - 48) 0 0 false 0 → record { reading = Ok (i + 1); value = v } ≡ with_coefficient s negative (coefficient_at s i)
alone-is s negative i is d behind n wide value =
    rw (value, wide, is) (sym (digit-alone s negative i (ap is_digit (sym is) ∙ d) (ap goes_on (sym behind) ∙ n)))

-- ---- The number as an Integer
-- a c of few digits, with no sign, fraction or exponent, is its own magnitude: zero like any other
own_value : (c : ℕ) → c ≤ largest → value_of false c 0 0 false 0 ≡ Fits false c 15
unfolding value_of
own_value c l = go (ℕ_discrete c 0)
  where
    go : Dec (c ≡ 0) → value_of false c 0 0 false 0 ≡ Fits false c 15
    go (yes z) = rw z
    go (no n) = rw (ne_eqb c 0 n) (limited-is false c 0 0 l refl (lit≤ tt))

own-integer : (c : ℕ) → c ≤ largest → integer_of (value_of false c 0 0 false 0) ≡ Is false c
unfolding integer_of
own-integer c l = ap integer_of (own_value c l) ∙ go (ℕ_discrete c 0)
  where
    within : within_limits c 15 ≡ true
    within = value-within false c 0 0 false 0 (own_value c l)

    go : Dec (c ≡ 0) → whole_of false c 15 ≡ Is false c
    go (yes z) = whole-zero false c 15 within z ∙ ap (Is false) (sym z)
    go (no n) = whole-raised false c 15 0 1 within refl refl n l ∙ ap (Is false) (omega arith)

-- the Integer of a digit that stands alone
alone-integer : (s : List ℕ) (i : ℕ) → is_digit (byte_at s i) ≡ true → goes_on (byte_at s (i + 1)) ≡ false → Is false (byte_at s i - 48) ≡ integer_of (number_at s i).value
alone-integer s i d stops =
    let range : (48 ≤ byte_at s i) × (byte_at s i ≤ 57) = digit-range (byte_at s i) d in
    let number : number_at s i ≡ record { reading = Ok (i + 1); value = value_of false (byte_at s i - 48) 0 0 false 0 } = number-plain s i (byte_at s i) refl (omega (arith, range.0)) ∙ digit-alone s false i d stops in
    sym (own-integer (byte_at s i - 48) (omega (arith, range.1))) ∙ ap (λ (v : Number). integer_of v.value) (sym number)

-- what decides the digit, from what the code has in hand: the byte b, the byte n behind it, and b as a wider number w
module _ (s : List ℕ) (i : ℕ) {b : ℕ} (is : b ≡ byte_at s i) where
  pub no_digit : is_digit b ≡ false → one_digit s i ≡ 10
  unfolding one_digit
  no_digit e = rw (← is, e)

  module _ (d : is_digit b ≡ true) {n : ℕ} (behind : n ≡ byte_at s (i + 1)) where
    pub digit-goes-on : goes_on n ≡ true → one_digit s i ≡ 10
    unfolding one_digit
    digit-goes-on e = rw (← is, d, ← behind, e)

    pub digit-stands : goes_on n ≡ false → {w : ℕ} → w ≡ b → one_digit s i ≡ w - 48
    unfolding one_digit
    digit-stands e wide = rw (← is, d, ← behind, e, wide)

pub digit-integer : (s : List ℕ) (i : ℕ) {x : ℕ} → x ≡ one_digit s i → x < 10 → Is false x ≡ integer_of (number_at s i).value
unfolding one_digit
digit-integer s i {x} is small =
    by-test Then (is_digit (byte_at s i)) _ _
    (λ d. by-test Then (goes_on (byte_at s (i + 1))) _ _ (λ _. none) (λ stops e. ap (Is false) e ∙ alone-integer s i d stops))
    (λ _. none)
    is
  where
    Then : ℕ → Type 0
    Then y = x ≡ y → Is false x ≡ integer_of (number_at s i).value

    none : Then 10
    none e = absurd (omega (arith, e, small))
