-- `quarter_text::put_cells` meets its contract: after each turn c cells are put.
-- Assumes nothing.
use mathlib.Core.Path.{◌≡◌}
use Rattle.output.specs.Output.{output_at, put}
use Rattle.quarter_text.specs.Table.{cells}
use Rattle.quarter_text.proofs.put_cells.Given as goal

abbrev pub invariant-loop-c : goal.invariant-loop-c
invariant-loop-c l = output_at l.out l.end ≡ put (output_at l.initial.out l.at) (cells l.between l.wide l.list l.from l.c)
