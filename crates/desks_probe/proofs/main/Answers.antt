-- `desks_probe::main` is safe and ends. The lengths of its large arrays are known by a law, not counted.
use mathlib.Core.Path.{sym}
use Prim.Native.Nat.{ℕ}
use lib.ListN.{length-replicate}
use Rattle.desks_probe.proofs.main.Goals as goal

pub slice_bounds-answer_all-end : goal.slice_bounds-answer_all-end
slice_bounds-answer_all-end c = sym (length-replicate {A = ℕ} 3200000 0)

pub slice_bounds-answer_all-end-2 : goal.slice_bounds-answer_all-end-2
slice_bounds-answer_all-end-2 c = sym (length-replicate {A = ℕ} 1048577 0)
