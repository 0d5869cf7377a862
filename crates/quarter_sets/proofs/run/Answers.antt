-- `quarter_sets::run` is safe and ends. The lengths of its large arrays are known by a law, not counted.
use Prim.Native.Nat.{ℕ}
use mathlib.Core.Path.{sym}
use lib.ListN.{length-replicate}
use Rattle.quarter_sets.proofs.run.Goals as goal

pub slice_bounds-run_with-end : goal.slice_bounds-run_with-end
slice_bounds-run_with-end g c = sym (length-replicate {A = ℕ} 1048577 0)

pub slice_bounds-run_with-end-2 : goal.slice_bounds-run_with-end-2
slice_bounds-run_with-end-2 g c = sym (length-replicate {A = ℕ} 1048577 0)

pub slice_bounds-run_with-end-3 : goal.slice_bounds-run_with-end-3
slice_bounds-run_with-end-3 g c = sym (length-replicate {A = ℕ} 1048577 0)

pub slice_bounds-run_with-end-4 : goal.slice_bounds-run_with-end-4
slice_bounds-run_with-end-4 g c = sym (length-replicate {A = ℕ} 794702 0)
