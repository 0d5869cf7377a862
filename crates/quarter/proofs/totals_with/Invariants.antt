-- `quarter::totals_with` meets its contract: the first i places have their sums.
-- Assumes nothing.
use Prim.Native.Nat.{◌-◌, ◌≤◌}
use mathlib.Core.Path.{◌≡◌}
use lib.ListN.{length}
use lib.IntN.{◌+ℤ◌}
use Rattle.exact_sums.specs.Sums.{whole_at}
use Rattle.exact_sums.proofs.Lists.{Filled}
use Rattle.quarter.proofs.totals_with.Given as goal

abbrev pub invariant-loop-i : goal.invariant-loop-i
invariant-loop-i l = Filled (λ j. whole_at l.totals j +ℤ whole_at l.sums j) l.initial.after l.i l.after × (l.i ≤ 24) × (length l.initial.after ≡ 24)

abbrev pub decreases-loop-i : goal.decreases-loop-i
decreases-loop-i l = 24 - l.i
