-- `quarter::refused` meets its contract: the state stays.
-- Assumes nothing.
use mathlib.Core.Path.{refl}
use Rattle.exact_sums.specs.Sums.{wholes}
use Rattle.quarter.specs.Quarter.{refused_with}
use Rattle.quarter.proofs.refused.Goals as goal

pub returns : goal.returns
unfolding refused_with wholes
returns c = refl
