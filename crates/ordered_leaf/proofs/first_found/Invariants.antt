-- `ordered_leaf::first_found` meets its contract: what is left of the search at the loop's head answers as the whole does.
use Prim.Native.Nat.{◌-◌}
use mathlib.Core.Path.{◌≡◌}
use Rattle.rule_cells.specs.Cells.{first_from, first_that}
use Rattle.rule_cells.specs.Seen.{cells_seen}
use Rattle.ordered_leaf.specs.Parents.{leaf_breaks_lookup}
use Rattle.ordered_leaf.proofs.first_found.Given as goal

abbrev pub invariant-loop-r : goal.invariant-loop-r
invariant-loop-r l = first_that (leaf_breaks_lookup (cells_seen l.table) l.k (cells_seen l.parents.table) l.parents.lookup l.parents.sums.now l.parents.order.now) l.table.records ≡ first_from (leaf_breaks_lookup (cells_seen l.table) l.k (cells_seen l.parents.table) l.parents.lookup l.parents.sums.now l.parents.order.now) (l.table.records - l.r) l.r
