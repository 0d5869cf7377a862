-- `ordered_key::first_repeat` meets its contract: the least so far and that of what is left are the least of all.
use Prim.Native.Nat.{◌-◌}
use Rattle.rule_cells.specs.Seen.{cells_seen}
use Rattle.ordered_key.specs.Repeat.{same_sum_and_key}
use Rattle.ordered_key.proofs.Least.{Walked}
use Rattle.ordered_key.proofs.first_repeat.Given as goal

abbrev pub invariant-loop-i : goal.invariant-loop-i
invariant-loop-i l = Walked (same_sum_and_key (cells_seen l.table) l.key l.sums) l.order l.least (l.i - 1)
