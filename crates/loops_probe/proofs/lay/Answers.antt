-- `loops_probe::lay` is safe and ends: the list keeps its length, and each turn writes one entry.
use Prim.Native.Nat.{◌-◌}
use mathlib.Core.Path.{◌∙◌}
use native.Mathlib.Omega.{arith}
use lib.ListN.{length-set}
use Rattle.loops_probe.proofs.lay.Goals as goal

pub loop-i-preserved : goal.loop-i-preserved
loop-i-preserved c = (omega arith, length-set c.loop-i.list _ _ ∙ c.loop-i.invariant.1)
