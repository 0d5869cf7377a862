-- `ordered_key::is_apart` meets its contract: what is left of the search at the loop's head answers as the whole does.
use Rattle.rule_cells.specs.Seen.{cells_seen}
use Rattle.rule_key.specs.Key.{same_key}
use Rattle.ordered_key.proofs.Grouped.{ApartLeft}
use Rattle.ordered_key.proofs.is_apart.Given as goal

abbrev pub invariant-loop-j : goal.invariant-loop-j
invariant-loop-j l = ApartLeft (same_key (cells_seen l.table) l.key) l.from l.i l.j
