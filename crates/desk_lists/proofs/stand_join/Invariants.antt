-- `desk_lists::stand_join` meets its contract. The loop's invariant: the first k files stand as the joined set has them; the
-- measure is how many are left.
-- Assumes nothing.
use mathlib.Core.Path.{◌≡◌}
use lib.ListN.{length}
use Rattle.desk_lists.proofs.Laws.{Stands}
use Rattle.desk_lists.proofs.stand_join.Given as goal

abbrev pub invariant-loop-k : goal.invariant-loop-k
invariant-loop-k l = (Stands l.desk l.shared l.stand l.k) × (length l.stand ≡ length l.initial.stand)
