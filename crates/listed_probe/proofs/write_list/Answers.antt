-- `listed_probe::write_list` is safe and ends: the list is short.
use native.Mathlib.Omega.{arith}
use Rattle.listed_probe.proofs.write_list.Goals as goal

pub put_list-requires : goal.put_list-requires
put_list-requires g c = omega (arith, c.if-list-gt32768.false)

pub overflow_mul-list : goal.overflow_mul-list
overflow_mul-list g c = omega (arith, c.if-list-gt32768.false)
