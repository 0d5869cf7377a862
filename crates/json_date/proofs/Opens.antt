-- One name opens every definition of this crate and of those below it, for tests that compute: a definition that is
-- added here asks nothing of those above.
use mathlib.Core.Bool.{Bool, true}
use Rattle.json_chars.proofs.Opens.{open-chars}
use Rattle.json_date.specs.Date.{is_leap, month_days, is_day, all_digits_at, two_at, has_form, year_of, month_of, day_of, date_of}
use Rattle.json_date.specs.Plain.{is_plain_date, is_two_of, is_early_day}

unfoldable pub open-dates : Bool
unfolding open-chars is_leap month_days is_day all_digits_at two_at has_form year_of month_of day_of date_of is_plain_date is_two_of is_early_day
open-dates = true
