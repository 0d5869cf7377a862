-- `ordered_key::is_ascending` meets its contract: what is left of the search at the loop's head answers as the whole does.
use Prim.Native.Nat.{◌-◌}
use Rattle.rule_cells.specs.Seen.{cells_seen}
use Rattle.key_order.specs.Order.{key_order}
use Rattle.ordered_key.proofs.Ascending.{Climbed}
use Rattle.ordered_key.proofs.is_ascending.Given as goal

abbrev pub invariant-loop-i : goal.invariant-loop-i
invariant-loop-i l = Climbed (key_order (cells_seen l.table) l.key) l.table.records (l.i - 1)
