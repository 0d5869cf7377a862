-- `table_probe::next_answer` is safe and ends: a case's bytes are lent only where the buffer has room for them.
use mathlib.Core.Path.{sym}
use native.Mathlib.Omega.{arith}
use lib.Seq.{length-take-le}
use Rattle.table_probe.proofs.next_answer.Goals as goal

pub slice_bounds-fill-end-else-buf-n : goal.slice_bounds-fill-end-else-buf-n
slice_bounds-fill-end-else-buf-n g c = sym (length-take-le _ _ (omega arith))

pub slice_bounds-answer_of-end-2 : goal.slice_bounds-answer_of-end-2
slice_bounds-answer_of-end-2 g c = sym (length-take-le _ _ (omega arith))
