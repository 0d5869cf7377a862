-- `quarter::some_far` meets its contract: what is left of the search at the loop's head answers as the whole does.
-- Assumes nothing.
use Prim.Native.Nat.{ℕ, ◌-◌}
use mathlib.Core.Path.{◌≡◌}
use Rattle.exact_sums.specs.Sums.{whole_at}
use Rattle.rule_cells.specs.Cells.{first_from, first_that}
use Rattle.quarter.specs.Code.{far_from}
use Rattle.quarter.proofs.some_far.Given as goal

abbrev pub invariant-loop-i : goal.invariant-loop-i
invariant-loop-i l = first_that (λ (j : ℕ). far_from l.limit (whole_at l.totals j)) 24 ≡ first_from (λ (j : ℕ). far_from l.limit (whole_at l.totals j)) (24 - l.i) l.i

abbrev pub decreases-loop-i : goal.decreases-loop-i
decreases-loop-i l = 24 - l.i
