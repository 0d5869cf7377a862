-- `link_loops::write_ring` meets its contract: the first i places have their record numbers.
-- Assumes nothing.
use Prim.Native.Nat.{ℕ, ◌+◌}
use lib.ListN.{get_or}
use Rattle.mark_numbers.proofs.Laws.{Filled}
use Rattle.link_loops.proofs.write_ring.Given as goal

abbrev pub invariant-loop-i : goal.invariant-loop-i
invariant-loop-i l = Filled (λ (j : ℕ). get_or l.way (l.start + j) 0 + 1) l.initial.list l.i l.list
