-- `element_sums::no_sums` meets its contract: 24 zeros are as many.
-- Assumes nothing.
use Rattle.element_sums.proofs.Laws.{zeros-are}
use Rattle.element_sums.proofs.no_sums.Goals as goal

pub returns : goal.returns
returns c = zeros-are
