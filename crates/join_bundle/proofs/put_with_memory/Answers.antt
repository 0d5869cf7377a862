-- `join_bundle::put_with_memory` meets its contract. The lengths of its large arrays are known by a law, not counted.
use Prim.Native.Nat.{ℕ}
use mathlib.Core.Path.{sym}
use lib.ListN.{length-replicate}
use Rattle.join_bundle.proofs.put_with_memory.Goals as goal

pub slice_bounds-put_all-end : goal.slice_bounds-put_all-end
slice_bounds-put_all-end c = sym (length-replicate {A = ℕ} 1048576 0)

pub slice_bounds-put_all-end-2 : goal.slice_bounds-put_all-end-2
slice_bounds-put_all-end-2 c = sym (length-replicate {A = ℕ} 1048576 0)

pub put_all-requires : goal.put_all-requires
put_all-requires c = record { no_join_fault = c.requires.no_join_fault; joined_fits = c.requires.joined_fits; buffers_len = (length-replicate {A = ℕ} 1048576 0, length-replicate {A = ℕ} 1048576 0) }

pub shape_of-out : goal.shape_of-out
shape_of-out c = c.put_all.auto.out

pub returns : goal.returns
returns c = c.put_all.ensures
