-- `loops_c::knotsaddle_loops_show` meets its contract: what is shown is put down as two numbers.
use Rattle.loops_c.specs.Calls.{LoopCalled}
use Rattle.loops_c.proofs.knotsaddle_loops_show.Goals as goal

pub returns : goal.returns
unfolding LoopCalled
returns c = (c.show_loop_in-shown.result, c.show_loop_in-shown.ensures, c.refusal_shown.ensures, c.records_shown.ensures)
