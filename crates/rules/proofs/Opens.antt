-- One name opens every definition of this crate and of those below it, for tests that compute: a definition that is
-- added here asks nothing of those above.
use mathlib.Core.Bool.{Bool, true}
use Rattle.rule_key.proofs.Opens.{open-keys}
use Rattle.rule_hours.proofs.Opens.{open-hours}
use Rattle.rule_dates.proofs.Opens.{open-dates}
use Rattle.rule_tree.proofs.Opens.{open-trees}
use Rattle.rule_shape.proofs.Opens.{open-shapes}
use Rattle.rule_when.specs.When.{is_value, holds_when}
use Rattle.rule_value.specs.Value.{is_one_of, agrees, breaks_field, field_rule}
use Rattle.rule_target.specs.Target.{target_of, breaks_target, target_rule}
use Rattle.rules.specs.Judge.{parent_break, rule_break, is_judged, mark_of}

unfoldable pub open-rules : Bool
unfolding open-keys open-hours open-dates open-trees open-shapes is_value holds_when is_one_of agrees breaks_field field_rule target_of breaks_target target_rule parent_break rule_break is_judged mark_of
open-rules = true
