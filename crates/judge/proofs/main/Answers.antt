-- `judge::main` is safe and ends. The lengths of its large arrays are known by a law, not counted.
use Prim.Native.Nat.{ℕ}
use mathlib.Core.Path.{sym}
use lib.ListN.{length-replicate}
use Rattle.judge.proofs.main.Goals as goal

pub slice_bounds-answer-end : goal.slice_bounds-answer-end
slice_bounds-answer-end c = sym (length-replicate {A = ℕ} 65537 0)
