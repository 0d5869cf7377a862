-- `json_probe::next_answer` is safe and ends: a case's bytes are lent only where the buffers have room for them.
use mathlib.Core.Path.{sym}
use native.Mathlib.Omega.{arith}
use lib.Seq.{length-take-le}
use Rattle.json_probe.proofs.next_answer.Goals as goal

pub slice_bounds-fill-end-2 : goal.slice_bounds-fill-end-2
slice_bounds-fill-end-2 g c = sym (length-take-le _ _ (omega arith))

pub slice_bounds-fill-end-else-not-fill-2 : goal.slice_bounds-fill-end-else-not-fill-2
slice_bounds-fill-end-else-not-fill-2 g c = sym (length-take-le _ _ (omega arith))

pub slice_bounds-answer_of-end-2 : goal.slice_bounds-answer_of-end-2
slice_bounds-answer_of-end-2 g c = sym (length-take-le _ _ (omega arith))

pub slice_bounds-answer_of-end-4 : goal.slice_bounds-answer_of-end-4
slice_bounds-answer_of-end-4 g c = sym (length-take-le _ _ (omega arith))
