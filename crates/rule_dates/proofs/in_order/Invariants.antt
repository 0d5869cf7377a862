-- `rule_dates::in_order` meets its contract: what is left of the search at the loop's head answers as the whole does.
use mathlib.Core.Path.{◌≡◌}
use Prim.Native.Nat.{◌-◌}
use Rattle.rule_cells.specs.Cells.{first_from, first_that}
use Rattle.rule_cells.specs.Seen.{cells_seen}
use Rattle.rule_dates.specs.Dates.{breaks_order}
use Rattle.rule_dates.proofs.in_order.Given as goal

abbrev pub invariant-loop-r : goal.invariant-loop-r
invariant-loop-r l =
    let breaks = breaks_order (cells_seen l.table) l.first l.second in
    first_from breaks (l.table.records - l.r) l.r ≡ first_that breaks l.table.records
