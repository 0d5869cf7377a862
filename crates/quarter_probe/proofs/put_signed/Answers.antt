-- `quarter_probe::put_signed` is safe and ends: each turn puts one number.
use Prim.Native.Nat.{◌-◌}
use mathlib.Core.Path.{refl}
use native.Mathlib.Omega.{arith}
use Rattle.quarter_probe.proofs.put_signed.Goals as goal

pub loop-i-init : goal.loop-i-init
loop-i-init c = (omega arith, refl)
