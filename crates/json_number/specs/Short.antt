-- For the code's sake alone: a number of at most fifteen digits and no exponent, as most are, has a value within the limits,
-- which need not be worked out to know so.
use Rattle.std.specs.Prelude.{ℕ, ◌+◌, ◌-◌, Bool, true, false, cond, not, ◌||◌, List, ltb, eqb}
use Rattle.json_bytes.specs.Reads.{byte_at}
use Rattle.json_number.specs.Number.{digits_at}

-- where the digits of a number begin: behind its minus sign, if it has one
unfoldable pub behind_sign : List ℕ → ℕ → ℕ
behind_sign s at = cond (eqb (byte_at s at) 45) (at + 1) at

-- whether the n digits at a place can be all those of a short number that stand before its point: one, or up to fifteen of
-- which the first is no zero
unfoldable pub is_short : List ℕ → ℕ → ℕ → Bool
is_short s from n =
    cond (eqb n 0) false (cond (eqb n 1) true (cond (ltb 15 n) false (not (eqb (byte_at s from) 48))))

-- a number's end, if no `e` or `E` stands there
unfoldable pub unless_raised : List ℕ → ℕ → ℕ
unless_raised s end = cond (eqb (byte_at s end) 101 || eqb (byte_at s end) 69) 0 end

-- the end of a short number whose digits before the point go from `from` up to i: a point and digits behind it, sixteen bytes
-- at most with those before, or no point
unfoldable pub short_behind : List ℕ → ℕ → ℕ → ℕ
short_behind s from i =
    cond (eqb (byte_at s i) 46)
    (cond (eqb (digits_at s (i + 1)) 0) 0
    (cond (ltb 16 (i + 1 + digits_at s (i + 1) - from)) 0 (unless_raised s (i + 1 + digits_at s (i + 1)))))
    (unless_raised s i)

unfoldable pub short_from : List ℕ → ℕ → ℕ
short_from s from = cond (is_short s from (digits_at s from)) (short_behind s from (from + digits_at s from)) 0

-- the place behind a short number; 0, which is behind no number, where none stands
unfoldable pub short_end : List ℕ → ℕ → ℕ
short_end s at = short_from s (behind_sign s at)
