-- `keep_drawer::answer_front` is safe and ends: the drawer's front is lent only where the buffer is long enough.
-- Assumes nothing.
use mathlib.Core.Path.{sym}
use native.Mathlib.Omega.{arith}
use lib.Seq.{length-take-le}
use Rattle.keep_drawer.proofs.answer_front.Goals as goal

pub slice_bounds-answer-end-2 : goal.slice_bounds-answer-end-2
slice_bounds-answer-end-2 g c = sym (length-take-le _ _ (omega arith))
