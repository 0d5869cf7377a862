-- One name opens every definition of this crate and of those below it, for tests that compute: a definition that is
-- added here asks nothing of those above.
use mathlib.Core.Bool.{Bool, true}
use Rattle.rule_cells.proofs.Opens.{open-cells}
use Rattle.rule_dates.specs.Dates.{is_later, is_after, breaks_order, dates_in_order_rule}

unfoldable pub open-dates : Bool
unfolding open-cells is_later is_after breaks_order dates_in_order_rule
open-dates = true
