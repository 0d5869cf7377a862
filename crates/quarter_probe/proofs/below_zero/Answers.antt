-- `quarter_probe::below_zero` is safe: a size below two to the 63 is a signed number either way.
use native.Mathlib.Omega.{arith}
use Rattle.exact_sums.proofs.Signed.{held_below}
use Rattle.quarter_probe.proofs.below_zero.Goals as goal

pub overflow_sub-result : goal.overflow_sub-result
overflow_sub-result c = held_below c.args.size (omega arith)
