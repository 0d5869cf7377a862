-- `quarter_sets::take_all` is safe and ends: each turn takes one set, and the lists keep their lengths.
use Prim.Native.Nat.{◌-◌}
use mathlib.Core.Path.{refl}
use Rattle.quarter_sets.proofs.take_all.Goals as goal

pub loop-place-init : goal.loop-place-init
loop-place-init g c = (refl, refl, refl, refl, refl)
