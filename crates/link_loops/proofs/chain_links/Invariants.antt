-- `link_loops::chain_links` meets its contract: the links from i on are chained.
-- Assumes nothing.
use Prim.Native.Nat.{◌-◌}
use Rattle.link_loops.proofs.Chains.{Chaining}
use Rattle.link_loops.proofs.chain_links.Given as goal

abbrev pub invariant-loop-i : goal.invariant-loop-i
invariant-loop-i l = Chaining l.from l.heads l.nexts l.i

abbrev pub decreases-loop-i : goal.decreases-loop-i
decreases-loop-i l = l.i
