-- `reason_text::put_line` meets its contract: one text behind the other.
use Rattle.reason_text.proofs.Lines.{line-put}
use Rattle.reason_text.proofs.put_line.Goals as goal

pub returns : goal.returns
returns c = line-put _ _ _ _ _ _ c.put_numbers-space.ensures c.put_byte-sentence.ensures c.put_told-feed.ensures c.put_byte.ensures
