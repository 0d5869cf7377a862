-- An amount of document 02, order 11: dollars or hours "in ten-thousandths, with no rounding", taken from the number's one
-- form. Records and fields are counted from 0.
use Rattle.std.specs.Prelude.{ℕ, ◌+◌, Bool, true, false, cond, leb, ℤ, pos, neg_ℤ}
use Rattle.json_number.specs.Number.{number_at, whole_of}
use Rattle.json_number.specs.declared.Value.{Value}
use Rattle.json_number.specs.declared.Value.TheVariants.{Fits, Beyond}
use Rattle.json_number.specs.declared.Integer.{Integer}
use Rattle.json_number.specs.declared.Integer.TheVariants.{Is, Fraction, TooLarge}
use Rattle.rule_cells.specs.Cells.{Table, start_of, is_given}

-- how many ten-thousandths a value is: the point stands four places further right, so that p is four more
unfoldable pub ten_thousandths : Value → Integer
ten_thousandths (Fits negative c p15) = whole_of negative c (p15 + 4)
ten_thousandths Beyond = TooLarge

-- "Each amount must be a whole number of ten-thousandths and at most 100,000,000 either way."
abbrev pub largest_amount : ℕ
largest_amount = 1000000000000

unfoldable pub is_amount : Integer → Bool
is_amount (Is negative size) = leb size largest_amount
is_amount Fraction = false
is_amount TooLarge = false

abbrev pub signed : Bool → ℕ → ℤ
signed negative size = cond negative (neg_ℤ (pos size)) (pos size)

-- what it adds; what is no amount has no say in any sum, since its set is left out whole
unfoldable pub amount_of : Integer → ℤ
amount_of (Is negative size) = cond (leb size largest_amount) (signed negative size) (pos 0)
amount_of Fraction = pos 0
amount_of TooLarge = pos 0

-- ---- In field k of record r. "Null adds nothing."
unfoldable pub ten_thousandths_in : Table → ℕ → ℕ → Integer
ten_thousandths_in t r k =
    cond (is_given t.cells t.width r k) (ten_thousandths (number_at t.bytes (start_of t.cells t.width r k)).value) (Is false 0)

unfoldable pub is_amount_in : Table → ℕ → ℕ → Bool
is_amount_in t r k = is_amount (ten_thousandths_in t r k)

unfoldable pub amount_in : Table → ℕ → ℕ → ℤ
amount_in t r k = amount_of (ten_thousandths_in t r k)
