-- `wording::put_spot` meets its contract: one text behind the other.
use Rattle.json_bytes.specs.Ascii.{codes}
use Rattle.wording.proofs.Filling.{spot-put}
use Rattle.wording.proofs.put_spot.Goals as goal

pub returns : goal.returns
unfolding codes
returns c = spot-put _ _ _ c.put_text-first.ensures c.put_number-behind.ensures c.put_text-second.ensures c.put_number.ensures
