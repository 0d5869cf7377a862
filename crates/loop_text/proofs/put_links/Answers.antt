-- `loop_text::put_links` meets its contract: after each turn i links are put.
-- Assumes nothing.
use native.Mathlib.Omega.{arith}
use Rattle.loop_text.proofs.Puts.{pieces-start, pieces-next, links-put}
use Rattle.loop_text.proofs.put_links.Goals as goal

pub loop-i-init : goal.loop-i-init
loop-i-init c = pieces-start _ _

pub loop-i-preserved : goal.loop-i-preserved
loop-i-preserved c = pieces-next _ _ _ c.loop-i.invariant c.put_link-end.ensures

pub returns : goal.returns
returns c = links-put _ _ _ _ (omega arith) c.loop-i.invariant
