-- `rule_tree::tree_parent_rule` meets its contract: what is left of the search at the loop's head answers as the whole does.
use mathlib.Core.Path.{◌≡◌}
use Prim.Native.Nat.{◌-◌}
use Rattle.rule_cells.specs.Cells.{first_from, first_that}
use Rattle.rule_cells.specs.Seen.{seen}
use Rattle.rule_outline.specs.Outline.{held_in}
use Rattle.rule_tree.specs.Tree.{tree_parent_breaks}
use Rattle.rule_tree.proofs.tree_parent_rule.Given as goal

abbrev pub invariant-loop-r : goal.invariant-loop-r
invariant-loop-r l =
    let breaks = tree_parent_breaks (seen l.table) l.id l.parent (held_in l.parents) in
    first_from breaks (l.table.records - l.r) l.r ≡ first_that breaks l.table.records
