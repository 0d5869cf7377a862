-- `quarter_text::put_pair` meets its contract: one cell behind the other.
-- Assumes nothing.
use Rattle.json_bytes.specs.Ascii.{codes}
use Rattle.quarter_text.proofs.Puts.{pair_put}
use Rattle.quarter_text.proofs.put_pair.Goals as goal

pub returns : goal.returns
unfolding codes
returns c = pair_put _ _ _ _ c.put_cell-next.ensures c.put_cell.ensures
