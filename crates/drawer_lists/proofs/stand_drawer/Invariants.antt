-- `drawer_lists::stand_drawer` meets its contract. The loop's invariant: the first k files are put down; the measure is how many
-- are left.
-- Assumes nothing.
use mathlib.Core.Path.{◌≡◌}
use Rattle.gate_lists.specs.Stands.{stands_in}
use Rattle.drawer_lists.proofs.stand_drawer.Given as goal

abbrev pub invariant-loop-k : goal.invariant-loop-k
invariant-loop-k l = l.stand ≡ stands_in l.d l.k l.initial.stand
