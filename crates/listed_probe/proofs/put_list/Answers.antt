-- `listed_probe::put_list` is safe and ends: each turn writes one number.
use Prim.Native.Nat.{◌-◌}
use native.Mathlib.Omega.{arith}
use Rattle.listed_probe.proofs.put_list.Goals as goal

pub overflow_mul-j : goal.overflow_mul-j
overflow_mul-j c = omega (arith, c.requires)

pub overflow_add-j : goal.overflow_add-j
overflow_add-j c = omega (arith, c.requires)

pub loop-j-preserved : goal.loop-j-preserved
loop-j-preserved c = omega (arith, c.put_word.auto)
