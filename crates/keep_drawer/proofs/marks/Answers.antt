-- `keep_drawer::marks` is safe and ends. The lengths of its large arrays are known by a law, not counted.
-- Assumes nothing.
use Prim.Native.Nat.{ℕ}
use mathlib.Core.Path.{sym}
use lib.ListN.{length-replicate}
use Rattle.keep_drawer.proofs.marks.Goals as goal

pub slice_bounds-marks_in-end : goal.slice_bounds-marks_in-end
slice_bounds-marks_in-end g c = sym (length-replicate {A = ℕ} 794702 0)
