-- `unbundle::unbundle_with_memory` is safe and ends. The length of its large array is known by a law, not counted.
use Prim.Native.Nat.{ℕ}
use mathlib.Core.Path.{sym}
use lib.ListN.{length-replicate}
use Rattle.unbundle.proofs.unbundle_with_memory.Goals as goal

pub slice_bounds-unbundle-end : goal.slice_bounds-unbundle-end
slice_bounds-unbundle-end g c = sym (length-replicate {A = ℕ} 1048577 0)
