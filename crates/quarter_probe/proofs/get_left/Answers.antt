-- `quarter_probe::get_left` is safe and ends: each turn takes one of 256 flags.
use Prim.Native.Nat.{◌-◌}
use mathlib.Core.Path.{refl, ◌∙◌}
use native.Mathlib.Omega.{arith}
use lib.ListN.{length-set}
use Rattle.quarter_probe.proofs.get_left.Goals as goal

pub loop-i-init : goal.loop-i-init
loop-i-init c = (omega arith, refl)

pub loop-i-preserved : goal.loop-i-preserved
loop-i-preserved c = (omega arith, length-set c.loop-i.left _ _ ∙ c.loop-i.invariant.1)
