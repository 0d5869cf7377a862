-- `quarter_text::put_figure` meets its contract: its size, behind a sign where it is below zero.
-- Assumes nothing.
use Rattle.quarter_text.proofs.Figures.{below_put, above-put}
use Rattle.quarter_text.proofs.put_figure.Goals as goal

pub returns-then-x-lt0 : goal.returns-then-x-lt0
returns-then-x-lt0 c = below_put _ _ c.ranges.x c.size_of-size.ensures c.if-x-lt0.true c.put_byte-next.ensures c.put_size.ensures

pub returns-else-x-lt0 : goal.returns-else-x-lt0
returns-else-x-lt0 c = above-put _ _ c.ranges.x c.size_of-size.ensures c.if-x-lt0.false c.put_size-else-x-lt0.ensures
