-- `json_bytes::eight_at` meets its contract: it is two fours.
use Rattle.json_bytes.proofs.Eight.{eight-read}
use Rattle.json_bytes.proofs.eight_at.Goals as goal

pub returns : goal.returns
returns c = eight-read _ _ c.four_at.ensures.0 c.four_at-2.ensures.0
