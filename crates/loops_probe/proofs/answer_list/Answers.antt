-- `loops_probe::answer_list` is safe and ends: the fronts of the list and of the output are lent only where there is room for them.
use mathlib.Core.Path.{sym}
use native.Mathlib.Omega.{arith}
use lib.Seq.{length-take-le}
use Rattle.loops_probe.proofs.answer_list.Goals as goal

pub slice_bounds-answer_case-end-2 : goal.slice_bounds-answer_case-end-2
slice_bounds-answer_case-end-2 g c = sym (length-take-le _ _ (omega arith))

pub slice_bounds-answer_case-end-4 : goal.slice_bounds-answer_case-end-4
slice_bounds-answer_case-end-4 g c = sym (length-take-le _ _ (omega arith))
