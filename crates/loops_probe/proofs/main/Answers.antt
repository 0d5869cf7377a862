-- `loops_probe::main` is safe and ends. The lengths of its large arrays are known by a law, not counted.
use mathlib.Core.Path.{sym}
use Prim.Native.Nat.{ℕ}
use lib.ListN.{length-replicate}
use Rattle.loops_probe.proofs.main.Goals as goal

pub slice_bounds-answer_all-end : goal.slice_bounds-answer_all-end
slice_bounds-answer_all-end c = sym (length-replicate {A = ℕ} 1048577 0)

pub slice_bounds-answer_all-end-2 : goal.slice_bounds-answer_all-end-2
slice_bounds-answer_all-end-2 c = sym (length-replicate {A = ℕ} 5000 0)

pub slice_bounds-answer_all-end-3 : goal.slice_bounds-answer_all-end-3
slice_bounds-answer_all-end-3 c = sym (length-replicate {A = ℕ} 40960 2779096485)

pub slice_bounds-answer_all-end-4 : goal.slice_bounds-answer_all-end-4
slice_bounds-answer_all-end-4 c = sym (length-replicate {A = ℕ} 1280000 0)
