-- `output::put_ended` meets its contract: one text behind the other.
-- Assumes nothing.
use Rattle.output.proofs.Puts.{put_then}
use Rattle.output.proofs.put_ended.Goals as goal

pub returns : goal.returns
returns c = put_then _ _ _ c.put_number-next.ensures c.put_byte.ensures
