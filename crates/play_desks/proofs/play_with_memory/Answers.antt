-- `play_desks::play_with_memory` is safe and ends. The lengths of its large arrays are known by a law, not counted.
use Prim.Native.Nat.{ℕ}
use mathlib.Core.Path.{sym}
use lib.ListN.{length-replicate}
use Rattle.play_desks.proofs.play_with_memory.Goals as goal

pub slice_bounds-play_all-end : goal.slice_bounds-play_all-end
slice_bounds-play_all-end g c = sym (length-replicate {A = ℕ} 1048577 0)

pub slice_bounds-play_all-end-2 : goal.slice_bounds-play_all-end-2
slice_bounds-play_all-end-2 g c = sym (length-replicate {A = ℕ} 1048577 0)

pub slice_bounds-play_all-end-3 : goal.slice_bounds-play_all-end-3
slice_bounds-play_all-end-3 g c = sym (length-replicate {A = ℕ} 1048577 0)

pub slice_bounds-play_all-end-4 : goal.slice_bounds-play_all-end-4
slice_bounds-play_all-end-4 g c = sym (length-replicate {A = ℕ} 1048577 0)

pub play_all-requires : goal.play_all-requires
play_all-requires g c = c.requires
