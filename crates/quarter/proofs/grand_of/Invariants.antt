-- `quarter::grand_of` meets its contract: the first c places have their sums.
-- Assumes nothing.
use Prim.Native.Nat.{◌-◌, ◌≤◌}
use mathlib.Core.Path.{◌≡◌}
use lib.ListN.{length}
use Rattle.exact_sums.proofs.Lists.{Filled}
use Rattle.quarter.specs.Code.{column_grand}
use Rattle.quarter.proofs.grand_of.Given as goal

abbrev pub invariant-loop-c : goal.invariant-loop-c
invariant-loop-c l = Filled (column_grand l.totals) l.initial.grand l.c l.grand × (l.c ≤ 6) × (length l.initial.grand ≡ 6)

abbrev pub decreases-loop-c : goal.decreases-loop-c
decreases-loop-c l = 6 - l.c
