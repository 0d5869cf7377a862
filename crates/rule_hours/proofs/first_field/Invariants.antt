-- `rule_hours::first_field` meets its contract: what is left of the search at the loop's head answers as the whole does.
use Prim.Native.Nat.{◌-◌}
use mathlib.Core.Path.{◌≡◌}
use Rattle.rule_cells.specs.Seen.{cells_seen}
use Rattle.rule_hours.specs.Hours.{field_from, first_field_that}
use Rattle.rule_hours.specs.Asked.{passes}
use Rattle.rule_hours.proofs.first_field.Given as goal

abbrev pub invariant-loop-k : goal.invariant-loop-k
invariant-loop-k l =
    let test = passes l.ask (cells_seen l.table) l.r in
    field_from test l.to (l.to - l.k) l.k ≡ first_field_that test l.from l.to
