-- `keep_drawer::judge` is safe and ends. The lengths of its large arrays are known by a law, not counted.
-- Assumes nothing.
use Prim.Native.Nat.{ℕ}
use mathlib.Core.Path.{sym}
use lib.ListN.{length-replicate}
use Rattle.keep_drawer.proofs.judge.Goals as goal

pub slice_bounds-judge_in-end : goal.slice_bounds-judge_in-end
slice_bounds-judge_in-end g c = sym (length-replicate {A = ℕ} 794702 0)

pub slice_bounds-judge_in-end-2 : goal.slice_bounds-judge_in-end-2
slice_bounds-judge_in-end-2 g c = sym (length-replicate {A = ℕ} 65536 0)

pub shape_of-bundle : goal.shape_of-bundle
shape_of-bundle g c = c.judge_in.auto.bundle
