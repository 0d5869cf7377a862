-- `report::put_board` meets its contract: three texts, one behind the other.
-- Assumes nothing.
use Rattle.json_bytes.specs.Ascii.{codes}
use Rattle.report.proofs.Puts.{board-put}
use Rattle.report.proofs.put_board.Goals as goal

pub returns : goal.returns
unfolding codes
returns c = board-put _ _ c.put_counted-lines.ensures c.put_lines-last.ensures c.put_last.ensures
