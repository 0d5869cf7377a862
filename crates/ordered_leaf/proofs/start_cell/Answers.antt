-- `ordered_leaf::start_cell` meets its contract: the tests that led to each answer decide the definition.
use mathlib.Core.Path.{sym, ◌∙◌}
use native.Mathlib.Omega.{arith}
use Rattle.table_rows.specs.Rows.{cell_at}
use Rattle.rule_cells.specs.Cells.{start_of}
use Rattle.rule_cells.proofs.Laws.{cell-is}
use Rattle.ordered_leaf.proofs.start_cell.Goals as goal

pub returns : goal.returns
unfolding start_of cell_at
returns c = c.cell_at.ensures ∙ sym (cell-is _ _ _ _ c.if-r-gt4096.false c.if-table-gt128.false (omega arith))
