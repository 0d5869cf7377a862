-- `rule_outline::fill_parents` meets its contract: the front of the list has the parents of the records passed.
use mathlib.Core.Path.{◌≡◌}
use mathlib.Core.List.{◌++◌}
use lib.ListN.{length, drop}
use Rattle.rule_cells.specs.Seen.{seen}
use Rattle.rule_outline.specs.Outline.{level_of, parents_up_to}
use Rattle.rule_outline.proofs.fill_parents.Given as goal

abbrev pub invariant-loop-r : goal.invariant-loop-r
invariant-loop-r l = (length l.parents ≡ length l.initial.parents) × (l.parents ≡ parents_up_to (level_of (seen l.table) l.level) l.r ++ drop l.r l.initial.parents)
