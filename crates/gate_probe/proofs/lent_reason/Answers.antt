-- `gate_probe::lent_reason` is safe and ends. The length of its large array is known by a law, not counted.
use mathlib.Core.Path.{sym}
use Prim.Native.Nat.{ℕ}
use lib.ListN.{length-replicate}
use Rattle.gate_probe.proofs.lent_reason.Goals as goal

pub slice_bounds-reason_in-end : goal.slice_bounds-reason_in-end
slice_bounds-reason_in-end c = sym (length-replicate {A = ℕ} 794702 0xA5A5A5A5)
