-- `keep_drawer::answer_asked` is safe and ends. The lengths of its large arrays are known by a law, not counted.
-- Assumes nothing.
use Prim.Native.Nat.{ℕ}
use mathlib.Core.Path.{sym}
use lib.ListN.{length-replicate}
use Rattle.keep_drawer.proofs.answer_asked.Goals as goal

pub slice_bounds-answer_named-end : goal.slice_bounds-answer_named-end
slice_bounds-answer_named-end g c = sym (length-replicate {A = ℕ} 1048577 0)

pub slice_bounds-answer_named-end-2 : goal.slice_bounds-answer_named-end-2
slice_bounds-answer_named-end-2 g c = sym (length-replicate {A = ℕ} 1048577 0)
