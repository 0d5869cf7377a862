-- `rule_outline::level_rule` meets its contract: what is left of the search at the loop's head answers as the whole does.
use mathlib.Core.Path.{◌≡◌}
use Prim.Native.Nat.{◌-◌}
use Rattle.rule_cells.specs.Cells.{first_from, first_that}
use Rattle.rule_cells.specs.Seen.{seen}
use Rattle.rule_outline.specs.Outline.{level_of, level_breaks}
use Rattle.rule_outline.proofs.Laws.{level_above}
use Rattle.rule_outline.proofs.level_rule.Given as goal

abbrev pub invariant-loop-r : goal.invariant-loop-r
invariant-loop-r l =
    let levels = level_of (seen l.table) l.level in
    record { is_above : l.above ≡ level_above levels l.r; search : first_from (level_breaks levels) (l.table.records - l.r) l.r ≡ first_that (level_breaks levels) l.table.records }
