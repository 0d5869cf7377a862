-- `loop_text::put_waits` meets its contract: one text behind the other.
-- Assumes nothing.
use Rattle.json_bytes.specs.Ascii.{codes}
use Rattle.loop_text.proofs.Puts.{waits-put}
use Rattle.loop_text.proofs.put_waits.Goals as goal

pub returns : goal.returns
unfolding codes
returns c = waits-put _ _ _ c.put_text-successor.ensures c.put_id-waits.ensures c.put_text-predecessor.ensures c.put_id.ensures
