-- `rule_value::field_rule` meets its contract: an enumeration goes its own way, and else what is left of the search at the loop's head
-- answers as the whole does.
use mathlib.Core.Path.{◌≡◌}
use Prim.Native.Nat.{◌-◌}
use Rattle.rule_cells.specs.Cells.{first_from, first_that}
use Rattle.rule_cells.specs.Seen.{cells_seen}
use Rattle.rule_value.specs.Value.{breaks_field}
use Rattle.rule_value.proofs.field_rule.Given as goal

abbrev pub invariant-loop-r : goal.invariant-loop-r
invariant-loop-r l =
    let breaks = breaks_field (cells_seen l.table) l.k l.rule l.places l.texts in
    first_from breaks (l.table.records - l.r) l.r ≡ first_that breaks l.table.records
