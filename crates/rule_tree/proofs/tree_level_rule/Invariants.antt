-- `rule_tree::tree_level_rule` meets its contract: what is left of the search at the loop's head answers as the whole does.
use mathlib.Core.Path.{◌≡◌}
use Prim.Native.Nat.{◌-◌}
use Rattle.rule_cells.specs.Cells.{first_from}
use Rattle.rule_cells.specs.Seen.{seen}
use Rattle.rule_outline.specs.Outline.{level_of}
use Rattle.rule_tree.specs.Tree.{tree_level_breaks, tree_level_rule}
use Rattle.rule_tree.proofs.tree_level_rule.Given as goal

abbrev pub invariant-loop-r : goal.invariant-loop-r
invariant-loop-r l =
    let levels = level_of (seen l.table) l.level in
    record { is_above : l.above ≡ levels (l.r - 1); search : tree_level_rule (seen l.table) l.level ≡ first_from (tree_level_breaks levels) (l.table.records - l.r) l.r }
