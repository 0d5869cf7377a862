-- `desks::judge_joined` meets its contract: a workspace of its own is room enough.
-- Assumes nothing.
use Prim.Native.Nat.{ℕ}
use mathlib.Core.Path.{sym}
use lib.ListN.{length-replicate}
use Rattle.desks.proofs.Laws.{own_room, own-judge}
use Rattle.desks.proofs.judge_joined.Goals as goal

pub slice_bounds-judge_joined_in-end : goal.slice_bounds-judge_joined_in-end
slice_bounds-judge_joined_in-end c = sym (length-replicate {A = ℕ} 794702 0)

pub returns : goal.returns
returns c = own-judge (own_room (length-replicate {A = ℕ} 794702 0)) c.args.desk.now c.args.shared.now c.judge_joined_in.ensures.value
