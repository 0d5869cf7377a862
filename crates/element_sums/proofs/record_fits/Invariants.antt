-- `element_sums::record_fits` meets its contract: what is left of the search at the loop's head answers as the whole does.
-- Assumes nothing.
use Prim.Native.Nat.{ℕ, ◌+◌, ◌-◌}
use mathlib.Core.Path.{◌≡◌}
use mathlib.Core.Bool.{not}
use Rattle.rule_cells.specs.Cells.{first_from, first_that}
use Rattle.amount.specs.Amount.{is_amount_in}
use Rattle.element_sums.specs.Sums.{first_column}
use Rattle.rule_cells.specs.Seen.{cells_seen}
use Rattle.element_sums.proofs.record_fits.Given as goal

abbrev pub invariant-loop-c : goal.invariant-loop-c
invariant-loop-c l = first_that (λ (j : ℕ). not (is_amount_in (cells_seen l.table) l.r (first_column + j))) 6 ≡ first_from (λ (j : ℕ). not (is_amount_in (cells_seen l.table) l.r (first_column + j))) (6 - l.c) l.c
