-- `ordered_leaf::pick_parents` meets its contract: the front of the list has what was picked out of the elements passed.
use Prim.Native.Nat.{◌≤◌}
use mathlib.Core.Path.{◌≡◌}
use mathlib.Core.List.{◌++◌}
use lib.ListN.{length, drop}
use Rattle.rule_cells.specs.Seen.{cells_seen}
use Rattle.ordered_leaf.specs.Parents.{parent_starts}
use Rattle.ordered_leaf.proofs.pick_parents.Given as goal

abbrev pub invariant-loop-q : goal.invariant-loop-q
invariant-loop-q l = (l.n ≤ l.q) × (l.starts ≡ parent_starts (cells_seen l.elements) l.id l.level l.elements.records l.q ++ drop l.n l.initial.starts) × (l.n ≡ length (parent_starts (cells_seen l.elements) l.id l.level l.elements.records l.q))
