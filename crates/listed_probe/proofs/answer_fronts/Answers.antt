-- `listed_probe::answer_fronts` is safe and ends: the fronts are lent only where the output and the list are long enough.
use mathlib.Core.Path.{sym}
use native.Mathlib.Omega.{arith}
use lib.Seq.{length-take-le}
use Rattle.listed_probe.proofs.answer_fronts.Goals as goal

pub slice_bounds-answer_call-end-2 : goal.slice_bounds-answer_call-end-2
slice_bounds-answer_call-end-2 g c = sym (length-take-le _ _ (omega arith))

pub slice_bounds-answer_call-end-4 : goal.slice_bounds-answer_call-end-4
slice_bounds-answer_call-end-4 g c = sym (length-take-le _ _ (omega arith))
