-- `element_sums::sum_listed` meets its contract: the sum so far is that over the records passed, and near enough to zero to be held.
-- Assumes nothing.
use mathlib.Core.Path.{◌≡◌}
use Rattle.exact_sums.specs.Sums.{sum_to}
use Rattle.element_sums.specs.Listed.{adds_listed}
use Rattle.rule_cells.specs.Seen.{cells_seen}
use Rattle.element_sums.proofs.sum_listed.Given as goal

abbrev pub invariant-loop-r : goal.invariant-loop-r
invariant-loop-r l = l.sum ≡ sum_to (adds_listed (cells_seen l.table) l.elements l.element l.k) l.r
