-- Worked cases of document 01, computed from the definitions.
-- Assumes nothing.
use Prim.Native.Nat.{ℕ}
use mathlib.Core.Path.{◌≡◌, refl}
use mathlib.Core.List.{List, [], ◌∷◌, map}
use Rattle.json_date.proofs.Opens.{open-dates}
use Rattle.json_chars.specs.Chars.{chars_at}
use Rattle.std.specs.Prelude.{Some, None}
use Rattle.json_date.specs.Date.{Date, day_in, date_of}

abbrev date_in : List ℕ → Date
date_in s = date_of (chars_at s 0)

-- each with what it is to show
abbrev dates : List (List ℕ)
dates =
    (34 ∷ 50 ∷ 48 ∷ 48 ∷ 48 ∷ 45 ∷ 48 ∷ 50 ∷ 45 ∷ 50 ∷ 57 ∷ 34 ∷ []) ∷  -- `"2000-02-29"`, P7: a leap year, since 400 divides it
    (34 ∷ 49 ∷ 57 ∷ 48 ∷ 48 ∷ 45 ∷ 48 ∷ 50 ∷ 45 ∷ 50 ∷ 57 ∷ 34 ∷ []) ∷  -- `"1900-02-29"`, P7: none, since 100 does and 400 does not
    (34 ∷ 50 ∷ 48 ∷ 50 ∷ 52 ∷ 45 ∷ 48 ∷ 50 ∷ 45 ∷ 50 ∷ 57 ∷ 34 ∷ []) ∷  -- `"2024-02-29"`, 4 does and 100 does not
    (34 ∷ 50 ∷ 48 ∷ 50 ∷ 51 ∷ 45 ∷ 48 ∷ 52 ∷ 45 ∷ 51 ∷ 49 ∷ 34 ∷ []) ∷  -- `"2023-04-31"`, April has 30 days
    (34 ∷ 50 ∷ 48 ∷ 50 ∷ 51 ∷ 45 ∷ 49 ∷ 51 ∷ 45 ∷ 48 ∷ 49 ∷ 34 ∷ []) ∷  -- `"2023-13-01"`, no thirteenth month
    (34 ∷ 48 ∷ 48 ∷ 48 ∷ 48 ∷ 45 ∷ 48 ∷ 49 ∷ 45 ∷ 48 ∷ 49 ∷ 34 ∷ []) ∷  -- `"0000-01-01"`, no year 0
    (34 ∷ 48 ∷ 48 ∷ 48 ∷ 49 ∷ 45 ∷ 48 ∷ 49 ∷ 45 ∷ 48 ∷ 49 ∷ 34 ∷ []) ∷  -- `"0001-01-01"`, the first day
    (34 ∷ 57 ∷ 57 ∷ 57 ∷ 57 ∷ 45 ∷ 49 ∷ 50 ∷ 45 ∷ 51 ∷ 49 ∷ 34 ∷ []) ∷  -- `"9999-12-31"`, the last
    (34 ∷ 34 ∷ []) ∷  -- `""`, an empty string is no date
    (34 ∷ 50 ∷ 48 ∷ 48 ∷ 48 ∷ 45 ∷ 48 ∷ 50 ∷ 45 ∷ 50 ∷ 57 ∷ 49 ∷ 34 ∷ []) ∷  -- `"2000-02-291"`, eleven characters are none
    (34 ∷ 50 ∷ 48 ∷ 48 ∷ 48 ∷ 92 ∷ 117 ∷ 48 ∷ 48 ∷ 50 ∷ 100 ∷ 48 ∷ 50 ∷ 45 ∷ 50 ∷ 57 ∷ 34 ∷ []) ∷  -- `"2000\u002d02-29"`, an escaped dash is a dash
    []

pub worked : map date_in dates ≡ (Some (day_in 2000 2 29) ∷ None ∷ Some (day_in 2024 2 29) ∷ None ∷ None ∷ None ∷ Some (day_in 1 1 1) ∷ Some (day_in 9999 12 31) ∷ None ∷ None ∷ Some (day_in 2000 2 29) ∷ [])
unfolding open-dates
worked = refl
