-- One name opens every definition of this crate and of those below it, for tests that compute: a definition that is
-- added here asks nothing of those above.
use mathlib.Core.Bool.{Bool, true}
use Rattle.rule_hours.proofs.Opens.{open-hours}
use Rattle.rule_shape.proofs.Opens.{open-shapes}
use Rattle.rule_reason.specs.Reason.{deciding_field, searched_in}

unfoldable pub open-reasons : Bool
unfolding open-hours open-shapes deciding_field searched_in
open-reasons = true
