-- `play_desks::gather_folder` is safe and ends. The lengths of its large arrays are known by a law, not counted.
use Prim.Native.Nat.{ℕ}
use mathlib.Core.Path.{sym}
use lib.ListN.{length-replicate}
use Rattle.play_desks.proofs.gather_folder.Goals as goal

pub slice_bounds-gather_in-end : goal.slice_bounds-gather_in-end
slice_bounds-gather_in-end g c = sym (length-replicate {A = ℕ} 1048577 0)

pub shape_of-file : goal.shape_of-file
shape_of-file g c = c.gather_in.auto.file

pub shape_of-bundle : goal.shape_of-bundle
shape_of-bundle g c = c.gather_in.auto.bundle
