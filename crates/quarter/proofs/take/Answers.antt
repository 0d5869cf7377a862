-- `quarter::take` meets its contract: a workspace of its own is room enough.
-- Assumes nothing.
use Prim.Native.Nat.{ℕ}
use mathlib.Core.Path.{sym}
use lib.ListN.{length-replicate}
use Rattle.quarter.proofs.Laws.{own-taken}
use Rattle.quarter.proofs.take.Goals as goal

pub slice_bounds-take_in-end : goal.slice_bounds-take_in-end
slice_bounds-take_in-end c = sym (length-replicate {A = ℕ} 794702 0)

pub returns : goal.returns
returns c = own-taken _ _ (length-replicate {A = ℕ} 794702 0) c.take_in.ensures.value
