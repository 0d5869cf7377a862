-- `rule_key::earliest_same` meets its contract: what is left of the search at the loop's head answers as the whole does.
use mathlib.Core.Path.{◌≡◌}
use Prim.Native.Nat.{◌-◌}
use Rattle.rule_cells.specs.Cells.{first_from, first_that}
use Rattle.rule_cells.specs.Seen.{cells_seen}
use Rattle.rule_key.proofs.Compare.{has_key_of}
use Rattle.rule_key.proofs.earliest_same.Given as goal

abbrev pub invariant-loop-j : goal.invariant-loop-j
invariant-loop-j l =
    let has = has_key_of (cells_seen l.table) l.key l.i in
    first_from has (l.i - l.j) l.j ≡ first_that has l.i
