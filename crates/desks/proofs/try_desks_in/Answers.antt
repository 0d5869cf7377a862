-- `desks::try_desks_in` meets its contract: the lists are the boards'.
-- Assumes nothing.
use Rattle.desks.proofs.Laws.{with-board, with-boards, desks-are}
use Rattle.desks.proofs.try_desks_in.Goals as goal

pub returns : goal.returns
unfolding with-boards with-board
returns c = let whole = desks-are _ (c.answer_lists-answer.ensures.value, (c.answer_lists-answer.ensures.board_a_after, (c.answer_lists-answer.ensures.board_b_after, c.answer_lists-answer.ensures.work_after))) in record { value = whole.0; work_after = whole.1 }
