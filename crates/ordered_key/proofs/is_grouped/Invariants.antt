-- `ordered_key::is_grouped` meets its contract: what is left of the walk at the loop's head answers as the whole does.
use Prim.Native.Nat.{◌-◌, ◌<◌}
use Rattle.rule_cells.specs.Seen.{cells_seen}
use Rattle.ordered_key.proofs.Grouped.{KeysLeft}
use Rattle.ordered_key.proofs.is_grouped.Given as goal

abbrev pub invariant-loop-i : goal.invariant-loop-i
invariant-loop-i l = (l.from < l.i) × KeysLeft (cells_seen l.table) l.key l.table.records l.from (l.i - 1)
