-- `ordered_outline::TypeRule::is_in_step` meets its contract: what is left of the search at the loop's head answers as the whole does.
use Prim.Native.Nat.{◌-◌}
use mathlib.Core.Path.{◌≡◌}
use Rattle.rule_cells.specs.Cells.{first_from}
use Rattle.rule_cells.specs.Seen.{seen, cells_seen}
use Rattle.rule_outline.specs.Outline.{held_in, outline_at, parent_type_breaks, parent_type_rule}
use Rattle.ordered_outline.proofs.TypeRule.is_in_step.Given as goal

abbrev pub invariant-loop-r : goal.invariant-loop-r
invariant-loop-r l = parent_type_rule (seen l.self.outline) l.self.level l.self.task (held_in l.self.parents.now) (seen l.self.tasks) l.self.id l.self.type_field l.self.word.now ≡ outline_at (cells_seen l.self.outline) l.self.level (held_in l.self.parents.now) (first_from (parent_type_breaks (cells_seen l.self.outline) l.self.level l.self.task (held_in l.self.parents.now) (seen l.self.tasks) l.self.id l.self.type_field l.self.word.now) (l.self.outline.records - l.r) l.r)
