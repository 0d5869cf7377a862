-- `quarter_text::put_lines` meets its contract: one line behind the other.
-- Assumes nothing.
use Rattle.quarter_text.proofs.Puts.{lines-put}
use Rattle.json_bytes.specs.Ascii.{codes}
use Rattle.quarter_text.proofs.put_lines.Goals as goal

pub returns : goal.returns
unfolding codes
returns c = lines-put _ _ _ _ _ _ c.put_line-first.ensures c.put_line-second.ensures c.put_line-third.ensures c.put_line-fourth.ensures c.put_line.ensures
