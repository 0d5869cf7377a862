-- One name opens every definition of this crate and of those below it, for tests that compute: a definition that is
-- added here asks nothing of those above.
use mathlib.Core.Bool.{Bool, true}
use Rattle.json_text.proofs.Opens.{open-text}
use Rattle.json_number.proofs.Opens.{open-numbers}
use Rattle.json_date.proofs.Opens.{open-dates}
use Rattle.table_value.specs.Value.{text_type, text_held, date_held, string_in, string_value, decimal_held, integer_held, number_in, number_value, literal_in, literal_value, starts_number, opens, value_at, token_at, not_object_of, not_object_at}

unfoldable pub open-values : Bool
unfolding open-text open-numbers open-dates text_type text_held date_held string_in string_value decimal_held integer_held number_in number_value literal_in literal_value starts_number opens value_at token_at not_object_of not_object_at
open-values = true
