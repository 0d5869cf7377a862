-- `gate_probe::lent_verdict` is safe and ends. The length of its large array is known by a law, not counted.
use mathlib.Core.Path.{sym}
use Prim.Native.Nat.{ℕ}
use lib.ListN.{length-replicate}
use Rattle.gate_probe.proofs.lent_verdict.Goals as goal

pub slice_bounds-verdict_in-end : goal.slice_bounds-verdict_in-end
slice_bounds-verdict_in-end c = sym (length-replicate {A = ℕ} 794702 0xA5A5A5A5)

pub shape_of-out : goal.shape_of-out
shape_of-out c = c.verdict_in.auto.out
