-- One name opens every definition of this crate and of those below it, for tests that compute: a definition that is
-- added here asks nothing of those above.
use mathlib.Core.Bool.{Bool, true}
use Rattle.schedule_rules.proofs.Opens.{open-rows}
use Rattle.baseline_rules.specs.Rules.{all_given, none_given, dates_in_order, further_rules, baseline_rules, further_rows, baseline_rows}

unfoldable pub open-baseline-rows : Bool
unfolding open-rows all_given none_given dates_in_order further_rules baseline_rules further_rows baseline_rows
open-baseline-rows = true
