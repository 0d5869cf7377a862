-- `quarter_text::put_figure_cell` meets its contract: the separator, spaces and the figure.
-- Assumes nothing.
use Rattle.quarter_text.proofs.Puts.{figure-cell-put}
use Rattle.quarter_text.proofs.put_figure_cell.Goals as goal

pub returns : goal.returns
returns c = figure-cell-put _ _ _ _ c.ranges.x c.figure_length.ensures c.saturating_sub.ensures c.put_text-start.ensures c.put_spaces-place.ensures c.put_figure.ensures
