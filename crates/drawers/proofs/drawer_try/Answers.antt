-- `drawers::drawer_try` meets its contract: a workspace of its own is room enough.
-- Assumes nothing.
use Prim.Native.Nat.{ℕ}
use mathlib.Core.Path.{sym}
use borrow.Author.Rules.{rules}
use lib.ListN.{length-replicate}
use Rattle.parts.specs.Files.{new_file}
use Rattle.mark_numbers.proofs.Laws.{Long}
use Rattle.board.specs.Board.{marks_on}
use Rattle.drawers.proofs.Laws.{own_room, own-change}
use Rattle.drawers.proofs.drawer_try.Goals as goal
use Rattle.drawers.proofs.drawer_try.Goals.{Start}

pub slice_bounds-drawer_try_in-end : goal.slice_bounds-drawer_try_in-end
slice_bounds-drawer_try_in-end c = sym (length-replicate {A = ℕ} 794702 0)

-- asked at the start, where there is no workspace to compute yet
board-long : (c : Start) → Long 81 (marks_on c.args.board)
board-long c = record { kinds-long = search rules; places-long = search rules; companions-long = search rules }

pub returns : goal.returns
returns c = own-change (own_room (length-replicate {A = ℕ} 794702 0)) c.args.drawer.now c.args.k (new_file c.args.present c.args.new.now) (marks_on c.args.board) (board-long (goal.at.returns c).Start) c.drawer_try_in.ensures.value
