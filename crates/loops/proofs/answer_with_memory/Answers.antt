-- `loops::answer_with_memory` is safe and ends. The lengths of its large arrays are known by a law, not counted.
-- Assumes nothing.
use Prim.Native.Nat.{ℕ}
use mathlib.Core.Path.{sym}
use lib.ListN.{length-replicate}
use Rattle.loops.proofs.answer_with_memory.Goals as goal

pub slice_bounds-answer-end : goal.slice_bounds-answer-end
slice_bounds-answer-end g c = sym (length-replicate {A = ℕ} 65537 0)

pub slice_bounds-answer-end-2 : goal.slice_bounds-answer-end-2
slice_bounds-answer-end-2 g c = sym (length-replicate {A = ℕ} 1280000 0)
