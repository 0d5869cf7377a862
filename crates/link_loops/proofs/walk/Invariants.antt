-- `link_loops::walk` meets its contract: each turn goes into a class, along it or out of it, or ends the walk.
-- Assumes nothing.
use Prim.Native.Nat.{◌-◌}
use lib.ListN.{length}
use Rattle.link_loops.proofs.Lists.{Walking, remaining}
use Rattle.link_loops.proofs.walk.Given as goal

abbrev pub invariant-loop-root : goal.invariant-loop-root
invariant-loop-root l = Walking l.from l.to l.heads l.nexts l.way l.mark l.steps l.through l.root

abbrev pub decreases-loop-root : goal.decreases-loop-root
decreases-loop-root l = remaining (length l.from) l.way l.mark l.steps l.root
