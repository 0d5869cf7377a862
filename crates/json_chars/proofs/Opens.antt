-- One name opens every definition of this crate and of those below it, for tests that compute: a definition that is
-- added here asks nothing of those above.
use mathlib.Core.Bool.{Bool, true}
use Rattle.json_bytes.proofs.Opens.{open-bytes}
use Rattle.json_chars.specs.Chars.{chars_from, chars_at}
use Rattle.json_chars.specs.Step.{second, is_two, is_three, is_four, sequence_of, sequence_at, letter_escape, hex_digit, digit_at, unit_at, unit_of, escaped_at, is_pair, surrogates_joined, escape_at, step_at}

unfoldable pub open-chars : Bool
unfolding open-bytes chars_from chars_at second is_two is_three is_four sequence_of sequence_at letter_escape hex_digit digit_at unit_at unit_of escaped_at is_pair surrogates_joined escape_at step_at
open-chars = true
