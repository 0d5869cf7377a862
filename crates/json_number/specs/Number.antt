-- A JSON number where it stands: its end or its fault, and its value as document 01, "Numbers", counts it, in the one form
-- that order 1 of document 02 asks for.
-- Source of the grammar: ECMA-404, section 8. Values here are unbounded: no number of digits is too large to have one.
use Rattle.std.specs.Prelude.{ℕ, zero, suc, ◌+◌, ◌*◌, ◌-◌, ◌/◌, ◌%◌, ◌^◌, ◌≡◌, Bool, true, false, cond, not, ◌&&◌, ◌||◌, List, [], ◌∷◌, drop, leb, eqb, Ok}
use Rattle.json_bytes.specs.Reads.{byte_at, within, leading, fault_at}
use Rattle.json_number.specs.declared.Coefficient.{Coefficient}
use Rattle.json_number.specs.declared.Coefficient.TheVariants.{Digits, NoDigit}
use Rattle.json_number.specs.declared.Exponent.{Exponent}
use Rattle.json_number.specs.declared.Exponent.TheVariants.{Power, NoPower}
use Rattle.json_number.specs.declared.Value.{Value}
use Rattle.json_number.specs.declared.Value.TheVariants.{Fits, Beyond}
use Rattle.json_number.specs.declared.Number.{Number}
use Rattle.json_number.specs.declared.Integer.{Integer}
use Rattle.json_number.specs.declared.Integer.TheVariants.{Is, Fraction, TooLarge}
use Rattle.json_number.specs.declared.Sign.{Sign}
use Rattle.json_number.specs.declared.Sign.TheVariants.{Zero, Above, Below}

-- ---- Digits
unfoldable pub is_digit : ℕ → Bool
is_digit b = within 48 57 b

-- how many digits stand at a place, one behind the other
abbrev pub digits_at : List ℕ → ℕ → ℕ
digits_at s i = leading is_digit (drop i s)

-- the whole number formed by the digits of n and then the digits that a list begins with
unfoldable pub formed : ℕ → List ℕ → ℕ
formed n [] = n
formed n (b ∷ bs) = elim (is_digit b) [ true ↦ formed (n * 10 + (b - 48)) bs | false ↦ n ]

-- ---- "c without trailing zeros, p raised to match"
-- how many zeros end a number, of at most `most`
unfoldable pub zeros_within : ℕ → ℕ → ℕ
zeros_within zero c = 0
zeros_within (suc most) c = elim (eqb (c % 10) 0) [ true ↦ suc (zeros_within most (c / 10)) | false ↦ 0 ]

-- a number has fewer zeros at its end than it counts; zero has none
abbrev pub end_zeros : ℕ → ℕ
end_zeros c = zeros_within c c

abbrev pub trimmed : ℕ → ℕ
trimmed c = c / 10 ^ end_zeros c

-- digits that form c: their end, c without its zeros at the end, how many those are, and the count of fraction digits
abbrev pub trimmed_at : ℕ → ℕ → ℕ → Coefficient
trimmed_at end c fraction = Digits end (trimmed c) (end_zeros c) fraction

-- ---- The parts of a number, in the order of the grammar
-- behind the integer, whose digits form c: a point and at least one digit, which c goes on through; or neither
unfoldable pub fraction_at : List ℕ → ℕ → ℕ → Coefficient
fraction_at s i c =
    cond (eqb (byte_at s i) 46)
    (cond (eqb (digits_at s (i + 1)) 0) (NoDigit (i + 1)) (trimmed_at (i + 1 + digits_at s (i + 1)) (formed c (drop (i + 1) s)) (digits_at s (i + 1))))
    (trimmed_at i c 0)

-- the digits before any exponent: the end, the whole number that they form, its zeros at the end counted apart, and how many
-- are fraction digits.
-- A zero stands alone; any other digit begins a run.
unfoldable pub coefficient_at : List ℕ → ℕ → Coefficient
coefficient_at s i =
    cond (eqb (byte_at s i) 48) (fraction_at s (i + 1) 0)
    (cond (eqb (digits_at s i) 0) (NoDigit i) (fraction_at s (i + digits_at s i) (formed 0 (drop i s))))

-- the exponent's digits, at least one; `below` says that a minus stands before them
unfoldable pub power_digits_at : List ℕ → ℕ → Bool → Exponent
power_digits_at s i below = cond (eqb (digits_at s i) 0) (NoPower i) (Power (i + digits_at s i) below (formed 0 (drop i s)))

-- a sign or none, and digits
unfoldable pub signed_at : List ℕ → ℕ → Exponent
signed_at s i =
    cond (eqb (byte_at s i) 45) (power_digits_at s (i + 1) true)
    (cond (eqb (byte_at s i) 43) (power_digits_at s (i + 1) false) (power_digits_at s i false))

-- the exponent stands behind an `e` or `E`; without the letter it is 0 and takes no room
unfoldable pub exponent_at : List ℕ → ℕ → Exponent
exponent_at s i = cond (eqb (byte_at s i) 101 || eqb (byte_at s i) 69) (signed_at s (i + 1)) (Power i false 0)

-- ---- The value
-- the largest c, and the largest magnitude of an Integer
abbrev pub largest : ℕ
largest = 999999999999999

-- "c at most 999,999,999,999,999 and p from -15 to 15", with p kept as p + 15
unfoldable pub within_limits : ℕ → ℕ → Bool
within_limits c p15 = leb c largest && leb p15 30

-- ±c times 10 to the p, where p is up less down
unfoldable pub limited : Bool → ℕ → ℕ → ℕ → Value
limited negative c up down = cond (leb down (up + 15) && within_limits c (up + 15 - down)) (Fits negative c (up + 15 - down)) Beyond

-- "p the exponent less the count of fraction digits", raised by the zeros that c has lost; "zero as c 0, p 0 without a sign".
-- "The limits on c and p then apply to that form."
unfoldable pub value_of : Bool → ℕ → ℕ → ℕ → Bool → ℕ → Value
value_of negative c trailing fraction below e =
    cond (eqb c 0) (Fits false 0 15) (limited negative c (cond below 0 e + trailing) (cond below (e + fraction) fraction))

-- the form of a value: zero has one, and any other c ends in a digit that is not 0
abbrev pub InForm : Bool → ℕ → ℕ → Type 0
InForm negative c p15 = (c ≡ 0 → (negative ≡ false) × (p15 ≡ 15)) × ((c ≡ 0 → ⊥) → c % 10 ≡ 0 → ⊥)

-- ---- A number, read whole
-- no number can go on at a place: kind 11 there, and no value
abbrev pub stopped_at : ℕ → Number
stopped_at place = record { reading = fault_at 11 place; value = Beyond }

unfoldable pub with_exponent : Bool → ℕ → ℕ → ℕ → Exponent → Number
with_exponent negative c trailing fraction (Power end below e) =
    record { reading = Ok end; value = value_of negative c trailing fraction below e }
with_exponent negative c trailing fraction (NoPower place) = stopped_at place

unfoldable pub with_coefficient : List ℕ → Bool → Coefficient → Number
with_coefficient s negative (Digits end c trailing fraction) = with_exponent negative c trailing fraction (exponent_at s end)
with_coefficient s negative (NoDigit place) = stopped_at place

unfoldable pub number_at : List ℕ → ℕ → Number
number_at s at =
    cond (eqb (byte_at s at) 45) (with_coefficient s true (coefficient_at s (at + 1))) (with_coefficient s false (coefficient_at s at))

-- ---- What a value is. A value that no number has, c or p15 outside the limits, counts as beyond them.
-- the magnitude, in units of 10 to the -15: whole for every p within the limits
abbrev pub magnitude : ℕ → ℕ → ℕ
magnitude c p15 = c * 10 ^ p15

-- "an Integer that isn't whole is 15, and one beyond ±999,999,999,999,999 is 18"; zero has no sign
unfoldable pub whole_of : Bool → ℕ → ℕ → Integer
whole_of negative c p15 =
    cond (within_limits c p15)
    (cond (eqb (magnitude c p15 % 10 ^ 15) 0)
    (cond (leb (magnitude c p15 / 10 ^ 15) largest) (Is (cond (eqb c 0) false negative) (magnitude c p15 / 10 ^ 15)) TooLarge)
    Fraction)
    TooLarge

unfoldable pub integer_of : Value → Integer
integer_of (Fits negative c p15) = whole_of negative c p15
integer_of Beyond = TooLarge

-- comparison with zero; `-0` is zero, and what is beyond the limits is not compared
unfoldable pub sign_of : Value → Sign
sign_of (Fits negative c p15) = cond (eqb c 0) Zero (cond negative Below Above)
sign_of Beyond = Zero

-- equality by value: one magnitude, and one sign unless it is zero
abbrev pub same_sign : Bool → Bool → Bool
same_sign true n = n
same_sign false n = not n

unfoldable pub same_parts : Bool → ℕ → ℕ → Bool → ℕ → ℕ → Bool
same_parts m c p n d q = within_limits c p && (within_limits d q && (eqb (magnitude c p) (magnitude d q) && (eqb c 0 || same_sign m n)))

unfoldable pub same_value : Value → Value → Bool
same_value (Fits m c p) (Fits n d q) = same_parts m c p n d q
same_value (Fits m c p) Beyond = false
same_value Beyond v = false
