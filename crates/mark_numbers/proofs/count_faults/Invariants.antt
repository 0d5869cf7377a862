-- `mark_numbers::count_faults` meets its contract: what was found is the number of faults so far, and at most as many as were
-- looked at, so that it fits.
use Prim.Native.Nat.{◌≤◌}
use mathlib.Core.Path.{◌≡◌}
use Rattle.mark_numbers.specs.Marks.{faults_up_to}
use Rattle.mark_numbers.proofs.count_faults.Given as goal

abbrev pub invariant-loop-kind : goal.invariant-loop-kind
invariant-loop-kind l = (l.found ≡ faults_up_to l.kinds l.kind-index) × (l.found ≤ l.kind-index)
