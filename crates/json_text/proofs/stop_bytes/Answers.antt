-- `json_text::stop_bytes` meets its contract: its flags are made of those of its two callees.
use Rattle.json_text.proofs.Stops.{stops-told}
use Rattle.json_text.proofs.stop_bytes.Goals as goal

pub returns : goal.returns
returns c = stops-told _ _ _ c.odd_bytes-odd.ensures c.no_space_bytes.ensures
