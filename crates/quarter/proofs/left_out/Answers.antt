-- `quarter::left_out` meets its contract: the flags of the sets that came are counted.
-- Assumes nothing.
use Rattle.quarter.specs.Quarter.{left_out}
use Rattle.quarter.proofs.left_out.Goals as goal

pub returns : goal.returns
unfolding left_out
returns c = c.count_set.ensures
