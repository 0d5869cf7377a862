-- `drawers::drawer_judge` meets its contract: a workspace of its own is room enough.
-- Assumes nothing.
use Prim.Native.Nat.{ℕ}
use mathlib.Core.Path.{sym}
use lib.ListN.{length-replicate}
use Rattle.drawers.proofs.Laws.{own_room, own-judge}
use Rattle.drawers.proofs.drawer_judge.Goals as goal

pub slice_bounds-drawer_judge_in-end : goal.slice_bounds-drawer_judge_in-end
slice_bounds-drawer_judge_in-end c = sym (length-replicate {A = ℕ} 794702 0)

pub returns : goal.returns
returns c = own-judge (own_room (length-replicate {A = ℕ} 794702 0)) c.args.drawer.now c.drawer_judge_in.ensures.value
