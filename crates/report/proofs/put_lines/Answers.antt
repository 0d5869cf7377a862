-- `report::put_lines` meets its contract: after each turn the lines of the marks below m are put.
-- Assumes nothing.
use Rattle.report.proofs.Puts.{lines_start, lines_next}
use Rattle.report.proofs.put_lines.Goals as goal

pub loop-m-init : goal.loop-m-init
loop-m-init c = lines_start _ _

pub loop-m-preserved : goal.loop-m-preserved
loop-m-preserved c = lines_next _ _ _ c.mark_in.ensures c.loop-m.invariant c.put_line-end.ensures
