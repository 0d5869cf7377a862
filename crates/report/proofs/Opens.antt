-- One name opens every definition of this crate and of those below it that a text takes, for tests that compute: a definition
-- that is added here asks nothing of those above.
use mathlib.Core.Bool.{Bool, true}
use Rattle.json_bytes.specs.Ascii.{codes}
use Rattle.bundle_bytes.specs.Pieces.{joined}
use Rattle.mark_numbers.proofs.Opens.{open-marks}
use Rattle.output.specs.Decimal.{digits_in, decimal}
use Rattle.report.specs.Report.{counted, line_numbers, line_of, line_in, lines_up_to, is_accepted, last_line, board_text, refusal_text, report_of, is_printed, text_in}

unfoldable pub open-report : Bool
unfolding open-marks codes joined digits_in decimal counted line_numbers line_of line_in lines_up_to is_accepted last_line board_text refusal_text report_of is_printed text_in
open-report = true
