-- `quarter::start` meets its contract: zeros and no flags.
-- Assumes nothing.
use mathlib.Core.Path.{refl}
use Rattle.exact_sums.specs.Sums.{wholes}
use Rattle.quarter.specs.Quarter.{started}
use Rattle.quarter.proofs.start.Goals as goal

pub returns : goal.returns
unfolding started wholes
returns c = refl
