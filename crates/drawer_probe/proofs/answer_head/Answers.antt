-- `drawer_probe::answer_head` is safe and ends: the drawer's front is lent only where the buffer is long enough.
use mathlib.Core.Path.{sym}
use native.Mathlib.Omega.{arith}
use lib.Seq.{length-take-le}
use Rattle.drawer_probe.proofs.answer_head.Goals as goal

pub slice_bounds-answer_drawer-end-2 : goal.slice_bounds-answer_drawer-end-2
slice_bounds-answer_drawer-end-2 g c = sym (length-take-le _ _ (omega arith))
