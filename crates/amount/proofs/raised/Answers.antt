-- `amount::raised` meets its contract: past p 11 no Integer is so large, and else it is the Integer of a p that is four more.
-- Assumes nothing.
use Rattle.json_number.specs.Number.{integer_of}
use Rattle.amount.proofs.Laws.{far-too-large}
use Rattle.amount.proofs.raised.Goals as goal

pub returns-then-p15-gt26 : goal.returns-then-p15-gt26
returns-then-p15-gt26 c = far-too-large _ _ _ c.if-p15-gt26.true

pub returns : goal.returns
unfolding integer_of
returns c = c.integer_of.ensures
