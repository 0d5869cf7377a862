-- `gates_probe::change_of` is safe and ends: of each list it lends as many places as the gate has marks, which are at most 96.
use Prim.Native.Nat.{ℕ}
use mathlib.Core.Path.{sym}
use native.Mathlib.Omega.{arith}
use lib.ListN.{length-replicate}
use lib.Seq.{length-take-le}
use Rattle.gates_probe.proofs.change_of.Goals as goal

pub slice_bounds-change_with-end : goal.slice_bounds-change_with-end
slice_bounds-change_with-end c = sym (length-take-le _ _ (omega (arith, length-replicate {A = ℕ} 96 9)))

pub slice_bounds-change_with-end-2 : goal.slice_bounds-change_with-end-2
slice_bounds-change_with-end-2 c = sym (length-take-le _ _ (omega (arith, length-replicate {A = ℕ} 96 9)))

pub slice_bounds-change_with-end-3 : goal.slice_bounds-change_with-end-3
slice_bounds-change_with-end-3 c = sym (length-take-le _ _ (omega (arith, length-replicate {A = ℕ} 96 9)))
