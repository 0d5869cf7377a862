-- `keep_drawer::number_in` is safe and ends: what is read of the number stays under the cap.
-- Assumes nothing.
use Prim.Native.Nat.{◌-◌}
use native.Mathlib.Omega.{arith}
use Rattle.keep_drawer.proofs.number_in.Goals as goal

pub loop-i-init : goal.loop-i-init
loop-i-init c = (omega arith, omega arith)

pub loop-i-preserved : goal.loop-i-preserved
loop-i-preserved c = (omega (arith, c.capped-number.ensures), omega arith)
