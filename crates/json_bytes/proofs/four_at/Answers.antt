-- `json_bytes::four_at` meets its contract: each byte is read where it stands.
use Rattle.json_bytes.proofs.Eight.{four-read}
use Rattle.json_bytes.proofs.four_at.Goals as goal

pub returns : goal.returns
returns c = four-read _ _ c.wide.ensures c.wide-2.ensures c.wide-3.ensures c.wide-4.ensures
