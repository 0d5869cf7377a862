-- `gate_lists::stand_bundle` meets its contract. The loop's invariant: the first k files are put down; the measure is how many
-- are left.
use Prim.Native.Nat.{◌-◌, ◌≤◌}
use mathlib.Core.Path.{◌≡◌}
use Rattle.gate_lists.specs.Stands.{stands_in}
use Rattle.gate_lists.proofs.stand_bundle.Given as goal

abbrev pub invariant-loop-k : goal.invariant-loop-k
invariant-loop-k l = (l.stand ≡ stands_in l.s l.k l.initial.stand) × (l.k ≤ l.n)

abbrev pub decreases-loop-k : goal.decreases-loop-k
decreases-loop-k l = l.n - l.k
