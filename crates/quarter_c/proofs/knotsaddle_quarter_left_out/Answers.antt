-- `quarter_c::knotsaddle_quarter_left_out` meets its contract: no total is looked at.
-- Assumes nothing.
use Rattle.quarter.specs.Quarter.{left_out}
use Rattle.quarter_c.proofs.knotsaddle_quarter_left_out.Goals as goal

pub returns : goal.returns
unfolding left_out
returns c = c.left_out.ensures
