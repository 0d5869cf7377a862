-- `play_desks::replace` is safe and ends. The lengths of its large arrays are known by a law, not counted.
use Prim.Native.Nat.{ℕ}
use mathlib.Core.Path.{sym}
use lib.ListN.{length-replicate}
use Rattle.play_desks.proofs.replace.Goals as goal

pub slice_bounds-replace_in-end : goal.slice_bounds-replace_in-end
slice_bounds-replace_in-end c = sym (length-replicate {A = ℕ} 1048577 0)

pub shape_of-bundle : goal.shape_of-bundle
shape_of-bundle c = c.replace_in.auto.bundle
