-- `loops_probe::answer_text` is safe and ends: the front of the list is lent only where there is room for it.
use mathlib.Core.Path.{sym}
use native.Mathlib.Omega.{arith}
use lib.Seq.{length-take-le}
use Rattle.loops_probe.proofs.answer_text.Goals as goal

pub slice_bounds-tell_loop-end-2 : goal.slice_bounds-tell_loop-end-2
slice_bounds-tell_loop-end-2 g c = sym (length-take-le _ _ (omega arith))
