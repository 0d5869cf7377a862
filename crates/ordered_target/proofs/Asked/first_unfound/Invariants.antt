-- `ordered_target::Asked::first_unfound` meets its contract: what is left of the search at the loop's head answers as the whole does, and in order
-- a record that is not seen to hold breaks the rule.
use Rattle.std.proofs.Common.{◌≡◌, ◌-◌}
use Rattle.rule_cells.specs.Cells.{first_from}
use Rattle.rule_cells.specs.Seen.{seen, cells_seen}
use Rattle.rule_target.specs.Target.{breaks_target}
use Rattle.ordered_target.proofs.Asked.first_unfound.Given as goal

abbrev pub invariant-loop-r : goal.invariant-loop-r
invariant-loop-r l = first_from (breaks_target (cells_seen l.self.table) l.self.target.k l.self.target.when (seen l.self.targets) l.self.target.m l.self.places.now l.self.texts.now) (l.self.table.records - l.from) l.from ≡ first_from (breaks_target (cells_seen l.self.table) l.self.target.k l.self.target.when (seen l.self.targets) l.self.target.m l.self.places.now l.self.texts.now) (l.self.table.records - l.r) l.r
