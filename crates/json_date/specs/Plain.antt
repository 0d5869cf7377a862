-- For the code's sake alone: a date told by the ten bytes between two quotes, as they stand.
use Rattle.std.specs.Prelude.{ℕ, ◌+◌, ◌*◌, ◌-◌, Bool, ◌&&◌, List, is_some, take, drop, eqb}
use Rattle.json_bytes.specs.Reads.{byte_at, within}
use Rattle.json_date.specs.Date.{Date, date_of}

abbrev pub is_told : Date → Bool
is_told date = is_some date

unfoldable pub is_plain_date : List ℕ → ℕ → Bool
is_plain_date s at = eqb (byte_at s at) 34 && (eqb (byte_at s (at + 11)) 34 && is_told (date_of (take 10 (drop (at + 1) s))))

-- two digits, whose number is from 1 to `most`
unfoldable pub is_two_of : ℕ → ℕ → ℕ → Bool
is_two_of a b most = within 48 57 a && (within 48 57 b && within 1 most ((a - 48) * 10 + (b - 48)))

-- ten bytes from a place on that are a date of a year from 1000 on, in any month up to its 28th
unfoldable pub is_early_day : List ℕ → ℕ → Bool
is_early_day s i =
    eqb (byte_at s (i + 4)) 45 && (eqb (byte_at s (i + 7)) 45 && (within 49 57 (byte_at s i) && (within 48 57 (byte_at s (i + 1)) && (within 48 57 (byte_at s (i + 2)) && (within 48 57 (byte_at s (i + 3)) && (is_two_of (byte_at s (i + 5)) (byte_at s (i + 6)) 12 && is_two_of (byte_at s (i + 8)) (byte_at s (i + 9)) 28))))))
