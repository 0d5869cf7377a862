-- `quarter_sets::tame` is safe and ends: each turn looks at one byte.
use Prim.Native.Nat.{◌-◌}
use mathlib.Core.Path.{refl}
use native.Mathlib.Omega.{arith}
use Rattle.quarter_sets.proofs.tame.Goals as goal

pub loop-i-init : goal.loop-i-init
loop-i-init c = (omega arith, refl)
