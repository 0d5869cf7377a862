-- A number as it is written, and what its digits and its exponent say. Document 01, "Numbers": "c is the whole number formed by
-- all digits before any exponent, p the exponent less the count of fraction digits; the value is ±c times 10 to the p."
use Rattle.std.specs.Prelude.{ℕ, ◌+◌, ◌-◌, ◌*◌, ◌%◌, ◌^◌, ◌<◌, ◌≡◌, Bool, true, false, cond, ◌&&◌, List, [], ◌∷◌, ◌++◌, ◌↔◌, ◌⊎◌, length, get_or, eqb}
use Rattle.json_bytes.specs.Reads.{byte_at}
use Rattle.json_number.specs.Number.{is_digit, largest, within_limits}
use Rattle.json_number.specs.declared.Value.{Value}
use Rattle.json_number.specs.declared.Value.TheVariants.{Fits, Beyond}
use Rattle.json_meaning.specs.Stands.{Stands}

-- ---- Digits
unfoldable pub all_digits : List ℕ → Bool
all_digits [] = true
all_digits (d ∷ ds) = is_digit d && all_digits ds

-- the number that digits stand for, each times ten to the count of those behind it
unfoldable pub digits_value : List ℕ → ℕ
digits_value [] = 0
digits_value (d ∷ ds) = (d - 48) * 10 ^ length ds + digits_value ds

-- ---- ECMA-404, section 8: a minus or none, digits, a point and digits or neither, and an exponent or none
pub record Written : Type 0 where
  pub negative : Bool
  pub whole : List ℕ
  pub fraction : List ℕ
  pub mark : List ℕ
  pub power : List ℕ

abbrev pub sign_bytes : Bool → List ℕ
sign_bytes negative = cond negative (45 ∷ []) []

abbrev pub pointed : List ℕ → List ℕ
pointed [] = []
pointed (d ∷ ds) = 46 ∷ d ∷ ds

unfoldable pub number_bytes : Written → List ℕ
number_bytes w = sign_bytes w.negative ++ (w.whole ++ pointed w.fraction) ++ (w.mark ++ w.power)

-- an exponent begins with e, E, e+, E+, e- or E-
abbrev pub exponent_marks : List (List ℕ)
exponent_marks = (101 ∷ []) ∷ (69 ∷ []) ∷ (101 ∷ 43 ∷ []) ∷ (69 ∷ 43 ∷ []) ∷ (101 ∷ 45 ∷ []) ∷ (69 ∷ 45 ∷ []) ∷ []

abbrev pub has_minus : List ℕ → Bool
has_minus mark = eqb (get_or mark 1 0) 45

-- a zero stands alone before the point
pub record IsWhole (whole : List ℕ) : Type 0 where
  pub digits : all_digits whole ≡ true
  pub some : 0 < length whole
  pub zero-alone : get_or whole 0 0 ≡ 48 → length whole ≡ 1

pub record IsExponent (mark power : List ℕ) : Type 0 where
  pub digits : all_digits power ≡ true
  pub begins : ((mark ≡ []) × (power ≡ [])) ⊎ (((k : ℕ) × (k < 6) × (get_or exponent_marks k [] ≡ mark)) × (0 < length power))

pub record IsNumber (w : Written) : Type 0 where
  pub whole : IsWhole w.whole
  pub fraction : all_digits w.fraction ≡ true
  pub exponent : IsExponent w.mark w.power

-- it ends where it cannot go on: a digit is behind it only where it is a zero alone, a point only where it has a fraction or an
-- exponent, and an e or E only where it has an exponent
pub record Ended (w : Written) (byte : ℕ) : Type 0 where
  pub digit : is_digit byte ≡ true → (w.whole ≡ 48 ∷ []) × (w.fraction ≡ []) × (w.mark ≡ [])
  pub point : byte ≡ 46 → w.fraction ≡ [] → w.mark ≡ [] → ⊥
  pub letter : (byte ≡ 101) ⊎ (byte ≡ 69) → w.mark ≡ [] → ⊥

-- ---- Its value: ±c times 10 to the p, where p is what raises it less what lowers it
abbrev pub coefficient : Written → ℕ
coefficient w = digits_value (w.whole ++ w.fraction)

abbrev pub raised_by : Written → ℕ
raised_by w = cond (has_minus w.mark) 0 (digits_value w.power)

abbrev pub lowered_by : Written → ℕ
lowered_by w = cond (has_minus w.mark) (digits_value w.power) 0 + length w.fraction

-- the same value as d times 10 to the (raise less lower), where d ends in no zero: "c without trailing zeros, p raised to match"
pub record OneForm (w : Written) (d raise lower : ℕ) : Type 0 where
  pub last : d % 10 ≡ 0 → ⊥
  pub same : d * 10 ^ (raise + lowered_by w) ≡ coefficient w * 10 ^ (raised_by w + lower)

-- what the reader's value says of it, with p kept as p + 15: "zero as c 0, p 0 without a sign"; "The limits on c and p then
-- apply to that form", c at most 999,999,999,999,999 and p from -15 to 15
pub record MeansValue (w : Written) (v : Value) : Type 0 where
  pub zero : coefficient w ≡ 0 → v ≡ Fits false 0 15
  pub other : (coefficient w ≡ 0 → ⊥) → (d : ℕ) × (raise : ℕ) × (lower : ℕ) × OneForm w d raise lower
  pub fits : (coefficient w ≡ 0 → ⊥) → (n : Bool) (d p15 : ℕ) → (v ≡ Fits n d p15) ↔ ((n ≡ w.negative) × OneForm w d p15 15 × (within_limits d p15 ≡ true))
  pub beyond : (d raise lower : ℕ) → OneForm w d raise lower → (v ≡ Beyond) ↔ ((largest < d) ⊎ ((raise + 15 < lower) ⊎ (lower + 15 < raise)))

-- ---- A number that stands at a place of a file, up to another, and its value
pub record NumberOf (s : List ℕ) (at end : ℕ) (v : Value) : Type 0 where
  pub written : Written
  pub grammar : IsNumber written
  pub stands : Stands s at (number_bytes written) end
  pub ended : Ended written (byte_at s end)
  pub value : MeansValue written v
