-- `play_desks::print_reasons` is safe and ends. The lengths of its large arrays are known by a law, not counted.
use Prim.Native.Nat.{ℕ}
use mathlib.Core.Path.{sym}
use lib.ListN.{length-replicate}
use Rattle.play_desks.proofs.print_reasons.Goals as goal

pub slice_bounds-print_reasons_in-end : goal.slice_bounds-print_reasons_in-end
slice_bounds-print_reasons_in-end g c = sym (length-replicate {A = ℕ} 794702 0)

pub slice_bounds-print_reasons_in-end-2 : goal.slice_bounds-print_reasons_in-end-2
slice_bounds-print_reasons_in-end-2 g c = sym (length-replicate {A = ℕ} 65536 0)
