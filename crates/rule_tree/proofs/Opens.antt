-- One name opens every definition of this crate and of those below it, for tests that compute: a definition that is
-- added here asks nothing of those above.
use mathlib.Core.Bool.{Bool, true}
use Rattle.rule_outline.proofs.Opens.{open-outlines}
use Rattle.rule_tree.specs.Tree.{first_breaks, next_breaks, tree_level_breaks, tree_level_rule, tree_parent_breaks, with_parent, tree_parent_rule, has_child, names_a_parent, leaf_breaks, leaf_rule}

unfoldable pub open-trees : Bool
unfolding open-outlines first_breaks next_breaks tree_level_breaks tree_level_rule tree_parent_breaks with_parent tree_parent_rule has_child names_a_parent leaf_breaks leaf_rule
open-trees = true
