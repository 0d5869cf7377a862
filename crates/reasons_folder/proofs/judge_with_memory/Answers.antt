-- `reasons_folder::judge_with_memory` is safe and ends. The lengths of its large arrays are known by a law, not counted.
use Prim.Native.Nat.{ℕ}
use mathlib.Core.Path.{sym}
use lib.ListN.{length-replicate}
use Rattle.reasons_folder.proofs.judge_with_memory.Goals as goal

pub slice_bounds-judge_folder-end : goal.slice_bounds-judge_folder-end
slice_bounds-judge_folder-end g c = sym (length-replicate {A = ℕ} 1048577 0)

pub slice_bounds-judge_folder-end-2 : goal.slice_bounds-judge_folder-end-2
slice_bounds-judge_folder-end-2 g c = sym (length-replicate {A = ℕ} 1048577 0)

pub slice_bounds-judge_folder-end-3 : goal.slice_bounds-judge_folder-end-3
slice_bounds-judge_folder-end-3 g c = sym (length-replicate {A = ℕ} 1048577 0)

pub slice_bounds-judge_folder-end-4 : goal.slice_bounds-judge_folder-end-4
slice_bounds-judge_folder-end-4 g c = sym (length-replicate {A = ℕ} 794702 0)

pub slice_bounds-judge_folder-end-5 : goal.slice_bounds-judge_folder-end-5
slice_bounds-judge_folder-end-5 g c = sym (length-replicate {A = ℕ} 65536 0)
