-- `ordered_key::fill_key_sums` meets its contract: the first i places have their sums.
use Rattle.mark_numbers.proofs.Laws.{Filled}
use Rattle.rule_cells.specs.Seen.{cells_seen}
use Rattle.ordered_key.specs.Sums.{key_sum_of}
use Rattle.ordered_key.proofs.fill_key_sums.Given as goal

abbrev pub invariant-loop-i : goal.invariant-loop-i
invariant-loop-i l = Filled (key_sum_of (cells_seen l.table) l.key) l.initial.sums l.i l.sums
