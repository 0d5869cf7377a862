-- `drawer_probe::take_front` is safe and ends: the front is lent only where the output is long enough.
use mathlib.Core.Path.{sym}
use native.Mathlib.Omega.{arith}
use lib.Seq.{length-take-le}
use Rattle.drawer_probe.proofs.take_front.Goals as goal

pub slice_bounds-take-end-2 : goal.slice_bounds-take-end-2
slice_bounds-take-end-2 g c = sym (length-take-le _ _ (omega arith))
