-- `drawer_c::knotsaddle_drawer_judge` meets its contract: it is the call over lists.
use Rattle.drawer_c.proofs.knotsaddle_drawer_judge.Goals as goal

pub returns : goal.returns
returns c = record { value = c.judge_drawer_lists.ensures.value; board_after = c.judge_drawer_lists.ensures.board_after; work_after = c.judge_drawer_lists.ensures.work_after }
