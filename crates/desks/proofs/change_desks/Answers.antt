-- `desks::change_desks` meets its contract: a workspace of its own is room enough.
-- Assumes nothing.
use Prim.Native.Nat.{ℕ}
use mathlib.Core.Path.{sym}
use borrow.Author.Rules.{rules}
use lib.ListN.{length, length-replicate}
use Rattle.parts.specs.Files.{new_file}
use Rattle.mark_numbers.proofs.Laws.{Long}
use Rattle.board.specs.Board.{marks_on}
use Rattle.desks.proofs.Laws.{own_room, own-desks, own-output}
use Rattle.desks.proofs.change_desks.Goals as goal
use Rattle.desks.proofs.change_desks.Goals.{Start}

pub slice_bounds-change_desks_in-end : goal.slice_bounds-change_desks_in-end
slice_bounds-change_desks_in-end c = sym (length-replicate {A = ℕ} 794702 0)

pub shape_of-out : goal.shape_of-out
shape_of-out c = c.change_desks_in.auto.out

-- asked at the start, where there is no workspace to compute yet
long-a : (c : Start) → Long 81 (marks_on c.args.board_a)
long-a c = record { kinds-long = search rules; places-long = search rules; companions-long = search rules }

long-b : (c : Start) → Long 81 (marks_on c.args.board_b)
long-b c = record { kinds-long = search rules; places-long = search rules; companions-long = search rules }

pub returns : goal.returns
returns c = let enough = own_room (length-replicate {A = ℕ} 794702 0) in
    record { value = own-desks enough c.args.a.now c.args.b.now c.args.shared.now (marks_on c.args.board_a) (marks_on c.args.board_b) (long-a (goal.at.returns c).Start) (long-b (goal.at.returns c).Start) c.args.whose c.args.k (new_file c.args.present c.args.new.now) (length c.args.out.now) c.change_desks_in.ensures.value; out_after = own-output enough c.args.a.now c.args.b.now c.args.shared.now (marks_on c.args.board_a) (marks_on c.args.board_b) (long-a (goal.at.returns c).Start) (long-b (goal.at.returns c).Start) c.args.whose c.args.k (new_file c.args.present c.args.new.now) c.args.out.now c.change_desks_in.ensures.out_after }
