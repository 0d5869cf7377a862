-- One name opens every definition of this crate and of those below it, for tests that compute: a definition that is
-- added here asks nothing of those above.
use mathlib.Core.Bool.{Bool, true}
use Rattle.rule_cells.proofs.Opens.{open-cells}
use Rattle.rule_hours.specs.Hours.{field_from, first_field_that, any_field, lies_below, is_above, is_null, breaks, none_below_rule, some_above_rule, together_rule, all_given_rule, none_given_rule}
use Rattle.rule_hours.specs.Asked.{passes}

unfoldable pub open-hours : Bool
unfolding open-cells field_from first_field_that any_field lies_below is_above is_null passes breaks none_below_rule some_above_rule together_rule all_given_rule none_given_rule
open-hours = true
