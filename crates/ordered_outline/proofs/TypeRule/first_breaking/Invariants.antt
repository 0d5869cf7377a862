-- `ordered_outline::TypeRule::first_breaking` meets its contract: what is left of the search at the loop's head answers as the whole does.
use Prim.Native.Nat.{◌-◌}
use mathlib.Core.Path.{◌≡◌}
use Rattle.rule_cells.specs.Cells.{first_from, first_that}
use Rattle.rule_cells.specs.Seen.{cells_seen}
use Rattle.rule_outline.specs.Outline.{held_in, outline_at}
use Rattle.ordered_outline.specs.Typed.{type_breaks_lookup}
use Rattle.ordered_outline.proofs.TypeRule.first_breaking.Given as goal

abbrev pub invariant-loop-r : goal.invariant-loop-r
invariant-loop-r l = outline_at (cells_seen l.self.outline) l.self.level (held_in l.self.parents.now) (first_that (type_breaks_lookup (cells_seen l.self.outline) l.self.level l.self.task (held_in l.self.parents.now) (cells_seen l.tasks.table) l.tasks.lookup l.tasks.sums.now l.tasks.order.now) l.self.outline.records) ≡ outline_at (cells_seen l.self.outline) l.self.level (held_in l.self.parents.now) (first_from (type_breaks_lookup (cells_seen l.self.outline) l.self.level l.self.task (held_in l.self.parents.now) (cells_seen l.tasks.table) l.tasks.lookup l.tasks.sums.now l.tasks.order.now) (l.self.outline.records - l.r) l.r)
