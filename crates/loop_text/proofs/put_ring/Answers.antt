-- `loop_text::put_ring` meets its contract, explained or not.
-- Assumes nothing.
use Rattle.loop_text.proofs.Puts.{plain-ring, told-ring}
use Rattle.loop_text.proofs.put_ring.Goals as goal

pub returns-then-explained : goal.returns-then-explained
returns-then-explained c = told-ring _ _ _ c.if-explained.true c.put_numbers-end.ensures c.put_explained.ensures

pub returns : goal.returns
returns c = plain-ring _ _ _ c.if-explained.false c.put_numbers-end.ensures
