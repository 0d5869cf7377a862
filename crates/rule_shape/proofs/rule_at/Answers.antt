-- `rule_shape::rule_at` meets its contract: each number is read from its place in the row.
use Rattle.rule_shape.specs.Rule.{rule_from}
use Rattle.rule_shape.proofs.rule_at.Goals as goal

pub returns : goal.returns
unfolding rule_from
returns c = rw (← c.row_cell-6.ensures, ← c.row_cell-5.ensures, ← c.row_cell-4.ensures, ← c.row_cell-3.ensures, ← c.row_cell-2.ensures, ← c.column-3.ensures, ← c.column-2.ensures, ← c.column.ensures, ← c.row_cell.ensures) c.rule_of.ensures
