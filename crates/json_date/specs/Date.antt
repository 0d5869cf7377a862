-- A date from the characters of a string. Document 01: "`yyyy-mm-dd`, decoded, years 0001 to 9999, Gregorian. Any other
-- string in a Date field is 17", here None.
use Rattle.std.specs.Prelude.{ℕ, ◌+◌, ◌*◌, ◌-◌, ◌%◌, Bool, cond, not, ◌&&◌, ◌||◌, List, Option, Some, None, length, get_or, eqb}
use Rattle.json_bytes.specs.Reads.{within}
use Rattle.json_date.specs.declared.Day.{Day}

-- what a string is: a day, or none
abbrev pub Date : Type 0
Date = Option Day

-- a day by its year, its month and its number in the month
abbrev pub day_in : ℕ → ℕ → ℕ → Day
day_in y m d = record { year = y; month = m; day = d }

-- ---- The Gregorian calendar
-- a year is a leap year if 400 divides it, or 4 does and 100 does not
unfoldable pub is_leap : ℕ → Bool
is_leap y = eqb (y % 400) 0 || (eqb (y % 4) 0 && not (eqb (y % 100) 0))

unfoldable pub month_days : ℕ → ℕ → ℕ
month_days y m = cond (eqb m 2) (cond (is_leap y) 29 28) (cond (eqb m 4 || (eqb m 6 || (eqb m 9 || eqb m 11))) 30 31)

unfoldable pub is_day : ℕ → ℕ → ℕ → Bool
is_day y m d = within 1 9999 y && (within 1 12 m && within 1 (month_days y m) d)

-- ---- The form
-- whether two digits stand at a place, and their number
unfoldable pub all_digits_at : List ℕ → ℕ → Bool
all_digits_at cs i = within 48 57 (get_or cs i 0) && within 48 57 (get_or cs (i + 1) 0)

unfoldable pub two_at : List ℕ → ℕ → ℕ
two_at cs i = (get_or cs i 0 - 48) * 10 + (get_or cs (i + 1) 0 - 48)

-- `yyyy-mm-dd`: ten characters, a dash at 4 and at 7, digits elsewhere
unfoldable pub has_form : List ℕ → Bool
has_form cs =
    eqb (length cs) 10 && (eqb (get_or cs 4 0) 45 && (eqb (get_or cs 7 0) 45 && (all_digits_at cs 0 && (all_digits_at cs 2 && (all_digits_at cs 5 && all_digits_at cs 8)))))

unfoldable pub year_of : List ℕ → ℕ
year_of cs = two_at cs 0 * 100 + two_at cs 2

unfoldable pub month_of : List ℕ → ℕ
month_of cs = two_at cs 5

unfoldable pub day_of : List ℕ → ℕ
day_of cs = two_at cs 8

-- ---- The date: the form, and a day of the calendar
unfoldable pub date_of : List ℕ → Date
date_of cs = cond (has_form cs && is_day (year_of cs) (month_of cs) (day_of cs)) (Some (day_in (year_of cs) (month_of cs) (day_of cs))) None
