-- `listed_probe::answer_listed` is safe and ends. The lengths of its arrays are known by a law, not counted.
use mathlib.Core.Path.{sym}
use Prim.Native.Nat.{ℕ}
use lib.ListN.{length-replicate}
use Rattle.listed_probe.proofs.answer_listed.Goals as goal

pub slice_bounds-answer_new-end : goal.slice_bounds-answer_new-end
slice_bounds-answer_new-end g c = sym (length-replicate {A = ℕ} 1048413 0)

pub slice_bounds-answer_new-end-2 : goal.slice_bounds-answer_new-end-2
slice_bounds-answer_new-end-2 g c = sym (length-replicate {A = ℕ} 20000 0xA5)

pub slice_bounds-answer_new-end-3 : goal.slice_bounds-answer_new-end-3
slice_bounds-answer_new-end-3 g c = sym (length-replicate {A = ℕ} 1056846 0xA5A5A5A5)

pub slice_bounds-answer_new-end-4 : goal.slice_bounds-answer_new-end-4
slice_bounds-answer_new-end-4 g c = sym (length-replicate {A = ℕ} 32768 0xA5A5A5A5)

pub slice_bounds-answer_new-end-5 : goal.slice_bounds-answer_new-end-5
slice_bounds-answer_new-end-5 g c = sym (length-replicate {A = ℕ} 131072 0)
