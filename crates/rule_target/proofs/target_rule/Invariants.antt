-- `rule_target::target_rule` meets its contract: what is left of the search at the loop's head answers as the whole does.
use mathlib.Core.Path.{◌≡◌}
use Prim.Native.Nat.{◌-◌}
use Rattle.rule_cells.specs.Cells.{first_from, first_that}
use Rattle.rule_cells.specs.Seen.{seen, cells_seen}
use Rattle.rule_target.specs.Target.{breaks_target}
use Rattle.rule_target.proofs.target_rule.Given as goal

abbrev pub invariant-loop-r : goal.invariant-loop-r
invariant-loop-r l =
    let breaks = breaks_target (cells_seen l.table) l.t.k l.t.when (seen l.targets) l.t.m l.places l.texts in
    first_from breaks (l.table.records - l.r) l.r ≡ first_that breaks l.table.records
