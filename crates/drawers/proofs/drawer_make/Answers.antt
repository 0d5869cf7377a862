-- `drawers::drawer_make` meets its contract: a workspace of its own is room enough.
-- Assumes nothing.
use Prim.Native.Nat.{ℕ}
use mathlib.Core.Path.{sym}
use borrow.Author.Rules.{rules}
use lib.ListN.{length-replicate}
use Rattle.parts.specs.Files.{new_file}
use Rattle.mark_numbers.proofs.Laws.{Long}
use Rattle.board.specs.Board.{marks_on}
use Rattle.drawers.proofs.Laws.{own_room, own-change, own-drawer}
use Rattle.drawers.proofs.drawer_make.Goals as goal
use Rattle.drawers.proofs.drawer_make.Goals.{Start}

pub slice_bounds-drawer_make_in-end : goal.slice_bounds-drawer_make_in-end
slice_bounds-drawer_make_in-end c = sym (length-replicate {A = ℕ} 794702 0)

pub shape_of-drawer : goal.shape_of-drawer
shape_of-drawer c = c.drawer_make_in.auto.drawer

-- asked at the start, where there is no workspace to compute yet
board-long : (c : Start) → Long 81 (marks_on c.args.board)
board-long c = record { kinds-long = search rules; places-long = search rules; companions-long = search rules }

pub returns : goal.returns
returns c = let enough = own_room (length-replicate {A = ℕ} 794702 0) in
    let f = new_file c.args.present c.args.new.now in
    record { value = own-change enough c.args.drawer.now c.args.k f (marks_on c.args.board) (board-long (goal.at.returns c).Start) c.drawer_make_in.ensures.value; drawer_after = own-drawer enough c.args.drawer.now c.args.k f (marks_on c.args.board) (board-long (goal.at.returns c).Start) c.drawer_make_in.ensures.drawer_after }
