-- `element_sums::sums_listed` meets its contract: the first i places have their sums.
-- Assumes nothing.
use mathlib.Core.Path.{◌≡◌}
use lib.ListN.{length}
use Rattle.exact_sums.proofs.Lists.{Filled}
use Rattle.element_sums.specs.Listed.{sum_listed_at}
use Rattle.rule_cells.specs.Seen.{cells_seen}
use Rattle.element_sums.proofs.sums_listed.Given as goal

abbrev pub invariant-loop-i : goal.invariant-loop-i
invariant-loop-i l = Filled (sum_listed_at (cells_seen l.table) l.elements) l.initial.sums l.i l.sums × (length l.initial.sums ≡ 24)
