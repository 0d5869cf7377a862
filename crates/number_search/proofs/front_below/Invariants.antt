-- `number_search::front_below` meets its contract: the turns that are left end where the whole does.
-- Assumes nothing.
use Prim.Native.Nat.{◌-◌}
use Rattle.number_search.specs.Search.{below}
use Rattle.number_search.proofs.Laws.{Searching}
use Rattle.number_search.proofs.front_below.Given as goal

abbrev pub invariant-loop-lo : goal.invariant-loop-lo
invariant-loop-lo l = Searching (below l.x) l.numbers l.lo l.hi

abbrev pub decreases-loop-lo : goal.decreases-loop-lo
decreases-loop-lo l = l.hi - l.lo
