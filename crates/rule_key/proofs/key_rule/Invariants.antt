-- `rule_key::key_rule` meets its contract: what is left of the search at the loop's head answers as the whole does.
use mathlib.Core.Path.{◌≡◌}
use Prim.Native.Nat.{◌-◌}
use Rattle.rule_cells.specs.Cells.{first_from, first_that}
use Rattle.rule_cells.specs.Seen.{seen}
use Rattle.rule_key.specs.Key.{repeats}
use Rattle.rule_key.proofs.key_rule.Given as goal

abbrev pub invariant-loop-i : goal.invariant-loop-i
invariant-loop-i l =
    let repeated = repeats (seen l.table) l.key in
    first_from repeated (l.table.records - l.i) l.i ≡ first_that repeated l.table.records
