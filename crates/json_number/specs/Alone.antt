-- For the code's sake alone: it reads a number of one digit, as most are, without looking for more.
use Rattle.std.specs.Prelude.{ℕ, ◌+◌, ◌-◌, Bool, cond, ◌||◌, List, eqb}
use Rattle.json_bytes.specs.Reads.{byte_at}
use Rattle.json_number.specs.Number.{is_digit}

-- whether a number that a digit begins can go on with the byte b: a digit, a point, `e` or `E`
unfoldable pub goes_on : ℕ → Bool
goes_on b = is_digit b || (eqb b 46 || (eqb b 101 || eqb b 69))

-- the digit that is all of the number at i; 10, which no digit is, where there is none
unfoldable pub one_digit : List ℕ → ℕ → ℕ
one_digit s i = cond (is_digit (byte_at s i)) (cond (goes_on (byte_at s (i + 1))) 10 (byte_at s i - 48)) 10
