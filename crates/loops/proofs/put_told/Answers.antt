-- `loops::put_told` meets its contract: the text of the bundle, or of one that is too long.
-- Assumes nothing.
use Prim.Native.Nat.{ℕ}
use mathlib.Core.Path.{sym}
use lib.ListN.{length-replicate}
use Rattle.json_bytes.specs.Ascii.{codes}
use Rattle.loops.proofs.Laws.{too_long, told}
use Rattle.loops.proofs.put_told.Goals as goal

pub returns-then-bundle-gt65536 : goal.returns-then-bundle-gt65536
unfolding codes
returns-then-bundle-gt65536 c = too_long _ _ _ c.if-bundle-gt65536.true c.put_counted.ensures

pub slice_bounds-tell_loop-end : goal.slice_bounds-tell_loop-end
slice_bounds-tell_loop-end c = sym (length-replicate {A = ℕ} 40960 0)

pub slice_bounds-tell_loop-end-2 : goal.slice_bounds-tell_loop-end-2
slice_bounds-tell_loop-end-2 c = sym (length-replicate {A = ℕ} 4096 0)

pub shape_of-out : goal.shape_of-out
shape_of-out c = c.tell_loop.auto.out

pub returns : goal.returns
returns c = told _ _ _ c.if-bundle-gt65536.false _ (length-replicate {A = ℕ} 40960 0) _ c.tell_loop.ensures
