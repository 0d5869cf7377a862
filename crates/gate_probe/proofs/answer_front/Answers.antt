-- `gate_probe::answer_front` is safe and ends: the front is lent only where the output is long enough.
use mathlib.Core.Path.{sym}
use native.Mathlib.Omega.{arith}
use lib.Seq.{length-take-le}
use Rattle.gate_probe.proofs.answer_front.Goals as goal

pub slice_bounds-answer_verdict-end-2 : goal.slice_bounds-answer_verdict-end-2
slice_bounds-answer_verdict-end-2 g c = sym (length-take-le _ _ (omega arith))
