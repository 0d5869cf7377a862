-- `quarter_text::put_spaces` meets its contract: after each turn i spaces are put.
-- Assumes nothing.
use Rattle.quarter_text.proofs.Puts.{spaces-start, spaces-next}
use Rattle.quarter_text.proofs.put_spaces.Goals as goal

pub loop-i-init : goal.loop-i-init
loop-i-init c = spaces-start _

pub loop-i-preserved : goal.loop-i-preserved
loop-i-preserved c = spaces-next _ _ c.loop-i.invariant c.put_byte-end.ensures
