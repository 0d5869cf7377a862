-- `quarter_probe::get_totals` is safe and ends: each turn takes one of 24 totals.
-- Assumes nothing.
use Prim.Native.Nat.{◌-◌}
use mathlib.Core.Path.{refl, ◌∙◌}
use native.Mathlib.Omega.{arith}
use lib.ListN.{length-set}
use Rattle.quarter_probe.proofs.get_totals.Goals as goal

pub loop-i-init : goal.loop-i-init
loop-i-init c = (omega arith, refl)

pub loop-i-preserved : goal.loop-i-preserved
loop-i-preserved c = (omega arith, length-set c.loop-i.totals _ _ ∙ c.loop-i.invariant.1)
