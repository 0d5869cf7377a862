-- One name opens every definition of this crate and of those below it, for tests that compute: a definition that is
-- added here asks nothing of those above.
use mathlib.Core.Bool.{Bool, true}
use Rattle.json_bytes.proofs.Opens.{open-bytes}
use Rattle.json_number.specs.Alone.{goes_on, one_digit}
use Rattle.json_number.specs.Short.{behind_sign, is_short, unless_raised, short_behind, short_from, short_end}
use Rattle.json_number.specs.Number.{is_digit, formed, zeros_within, fraction_at, coefficient_at, power_digits_at, signed_at, exponent_at, within_limits, limited, value_of, with_exponent, with_coefficient, number_at, whole_of, integer_of, sign_of, same_parts, same_value}

unfoldable pub open-numbers : Bool
unfolding open-bytes is_digit formed zeros_within fraction_at coefficient_at power_digits_at signed_at exponent_at within_limits limited value_of with_exponent with_coefficient number_at whole_of integer_of sign_of same_parts same_value goes_on one_digit behind_sign is_short unless_raised short_behind short_from short_end
open-numbers = true
