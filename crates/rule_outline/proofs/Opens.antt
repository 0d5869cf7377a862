-- One name opens every definition of this crate and of those below it, for tests that compute: a definition that is
-- added here asks nothing of those above.
use mathlib.Core.Bool.{Bool, true}
use Rattle.rule_cells.proofs.Opens.{open-cells}
use Rattle.rule_outline.specs.Outline.{raised, level_of, lower_before, parent_by, parents_up_to, parents_have_room, with_parents, held_in, run_breaks, level_breaks, level_rule, parent_shown, outline_at, parent_breaks, parent_rule, some_of, is_typed, parent_type_breaks, parent_type_rule}

unfoldable pub open-outlines : Bool
unfolding open-cells raised level_of lower_before parent_by parents_up_to parents_have_room with_parents held_in run_breaks level_breaks level_rule parent_shown outline_at parent_breaks parent_rule some_of is_typed parent_type_breaks parent_type_rule
open-outlines = true
