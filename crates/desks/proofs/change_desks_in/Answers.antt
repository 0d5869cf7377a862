-- `desks::change_desks_in` meets its contract: the lists are the boards'.
-- Assumes nothing.
use Rattle.desks.proofs.Laws.{with-board, with-boards, desks-are}
use Rattle.desks.proofs.change_desks_in.Goals as goal

pub returns : goal.returns
unfolding with-boards with-board
returns c =
    let e = c.change_lists-answer.ensures in
    let whole = desks-are _ (e.value, (e.board_a_after, (e.board_b_after, e.out_after))) in
    record { value = whole.0; out_after = e.out_after; work_after = e.work_after }
