-- One name opens every definition of this crate and of those below it, for tests that compute: a definition that is
-- added here asks nothing of those above.
use mathlib.Core.Bool.{Bool, true}
use Rattle.json_same.proofs.Opens.{open-same}
use Rattle.json_number.proofs.Opens.{open-numbers}
use Rattle.json_date.proofs.Opens.{open-dates}
use Rattle.rule_cells.specs.Cells.{cell_of, start_of, is_given, text_of, same_text, is_word, is_true, integer_in, date_in, sign_in, first_from, first_that}

unfoldable pub open-cells : Bool
unfolding open-same open-numbers open-dates cell_of start_of is_given text_of same_text is_word is_true integer_in date_in sign_in first_from first_that
open-cells = true
