-- `element_sums::all_fit` meets its contract: what is left of the search at the loop's head answers as the whole does.
-- Assumes nothing.
use Prim.Native.Nat.{ℕ, ◌-◌}
use mathlib.Core.Path.{◌≡◌}
use mathlib.Core.Bool.{not}
use Rattle.rule_cells.specs.Cells.{first_from, first_that}
use Rattle.element_sums.specs.Sums.{record_fits}
use Rattle.rule_cells.specs.Seen.{cells_seen}
use Rattle.element_sums.proofs.all_fit.Given as goal

abbrev pub invariant-loop-r : goal.invariant-loop-r
invariant-loop-r l = first_that (λ (j : ℕ). not (record_fits (cells_seen l.table) j)) l.table.records ≡ first_from (λ (j : ℕ). not (record_fits (cells_seen l.table) j)) (l.table.records - l.r) l.r
