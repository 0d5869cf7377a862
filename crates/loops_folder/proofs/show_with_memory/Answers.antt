-- `loops_folder::show_with_memory` is safe and ends. The lengths of its large arrays are known by a law, not counted.
-- Assumes nothing.
use Prim.Native.Nat.{ℕ}
use mathlib.Core.Path.{sym}
use lib.ListN.{length-replicate}
use Rattle.loops_folder.proofs.show_with_memory.Goals as goal

pub slice_bounds-show_folder-end : goal.slice_bounds-show_folder-end
slice_bounds-show_folder-end g c = sym (length-replicate {A = ℕ} 1048577 0)

pub slice_bounds-show_folder-end-2 : goal.slice_bounds-show_folder-end-2
slice_bounds-show_folder-end-2 g c = sym (length-replicate {A = ℕ} 1048577 0)

pub slice_bounds-show_folder-end-3 : goal.slice_bounds-show_folder-end-3
slice_bounds-show_folder-end-3 g c = sym (length-replicate {A = ℕ} 1048577 0)

pub slice_bounds-show_folder-end-4 : goal.slice_bounds-show_folder-end-4
slice_bounds-show_folder-end-4 g c = sym (length-replicate {A = ℕ} 40960 0)

pub slice_bounds-show_folder-end-5 : goal.slice_bounds-show_folder-end-5
slice_bounds-show_folder-end-5 g c = sym (length-replicate {A = ℕ} 4096 0)

pub slice_bounds-show_folder-end-6 : goal.slice_bounds-show_folder-end-6
slice_bounds-show_folder-end-6 g c = sym (length-replicate {A = ℕ} 1280000 0)
