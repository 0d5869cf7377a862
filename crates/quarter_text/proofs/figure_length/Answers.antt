-- `quarter_text::figure_length` meets its contract: a list of 32 bytes holds every figure, so that it ends where it is put.
-- Assumes nothing.
use mathlib.Core.Path.{refl}
use Rattle.quarter_text.proofs.Figures.{length-read}
use Rattle.quarter_text.proofs.figure_length.Goals as goal

pub returns : goal.returns
returns c = length-read _ c.ranges.x _ refl c.put_figure.ensures
