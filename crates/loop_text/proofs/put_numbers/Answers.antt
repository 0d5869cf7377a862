-- `loop_text::put_numbers` meets its contract: after each turn i numbers are put.
-- Assumes nothing.
use native.Mathlib.Omega.{arith}
use Rattle.loop_text.proofs.Puts.{pieces-start, pieces-next, number_put, numbers-put}
use Rattle.loop_text.proofs.put_numbers.Goals as goal

pub loop-i-init : goal.loop-i-init
loop-i-init c = pieces-start _ _

pub loop-i-preserved : goal.loop-i-preserved
loop-i-preserved c = pieces-next _ _ _ c.loop-i.invariant (number_put _ _ _ c.number_in.ensures.0 c.byte_behind.ensures c.put_ended-end.ensures)

pub returns : goal.returns
returns c = numbers-put _ _ _ (omega arith) c.loop-i.invariant
