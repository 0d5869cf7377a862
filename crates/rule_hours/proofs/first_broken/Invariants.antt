-- `rule_hours::first_broken` meets its contract: what is left of the search at the loop's head answers as the whole does.
use Prim.Native.Nat.{◌-◌}
use mathlib.Core.Path.{◌≡◌}
use Rattle.rule_cells.specs.Cells.{first_from, first_that}
use Rattle.rule_cells.specs.Seen.{cells_seen}
use Rattle.rule_hours.specs.Hours.{breaks}
use Rattle.rule_hours.proofs.first_broken.Given as goal

abbrev pub invariant-loop-r : goal.invariant-loop-r
invariant-loop-r l =
    let test = breaks l.shape (cells_seen l.table) l.from l.to in
    first_from test (l.table.records - l.r) l.r ≡ first_that test l.table.records
