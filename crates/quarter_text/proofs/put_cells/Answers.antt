-- `quarter_text::put_cells` meets its contract: after each turn c cells are put.
-- Assumes nothing.
use Rattle.quarter_text.proofs.Puts.{cells-start, cells-next}
use Rattle.quarter_text.proofs.put_cells.Goals as goal

pub loop-c-init : goal.loop-c-init
loop-c-init c = cells-start _ _ _ _ _

pub loop-c-preserved : goal.loop-c-preserved
loop-c-preserved c = cells-next _ _ _ _ _ _ (record { sfits = c.whole_in.type_inv }) c.whole_in.ensures c.loop-c.invariant c.put_figure_cell-end.ensures
