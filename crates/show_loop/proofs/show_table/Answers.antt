-- `show_loop::show_table` meets its contract: fronts of its own lists are the columns.
-- Assumes nothing.
use Prim.Native.Nat.{ℕ}
use mathlib.Core.Path.{sym}
use native.Mathlib.Omega.{arith}
use lib.ListN.{length-replicate}
use lib.Seq.{length-take-le}
use Rattle.show_loop.proofs.Laws.{columns-fit, of-records}
use Rattle.show_loop.proofs.show_table.Goals as goal

pub slice_bounds-show_columns-end : goal.slice_bounds-show_columns-end
slice_bounds-show_columns-end c = sym (length-take-le _ _ (omega (arith, length-replicate {A = ℕ} 4096 0)))

pub slice_bounds-show_columns-end-2 : goal.slice_bounds-show_columns-end-2
slice_bounds-show_columns-end-2 c = sym (length-take-le _ _ (omega (arith, length-replicate {A = ℕ} 4096 0)))

pub show_columns-requires : goal.show_columns-requires
show_columns-requires c = columns-fit _ _ _ _ c.requires.0 c.requires.1 (length-take-le _ _ (omega (arith, length-replicate {A = ℕ} 4096 0))) (length-take-le _ _ (omega (arith, length-replicate {A = ℕ} 4096 0)))

pub returns : goal.returns
returns c = of-records _ _ _ _ _ _ (length-take-le _ _ (omega (arith, length-replicate {A = ℕ} 4096 0))) c.show_columns.ensures
