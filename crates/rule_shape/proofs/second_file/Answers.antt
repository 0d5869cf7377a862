-- `rule_shape::second_file` meets its contract: the shapes below 15 look into no other file.
use mathlib.Core.Path.{sym, ◌∙◌}
use Rattle.rule_shape.proofs.Laws.{second-own, second-other}
use Rattle.rule_shape.proofs.second_file.Goals as goal

pub returns-then-row_cell-lt15 : goal.returns-then-row_cell-lt15
returns-then-row_cell-lt15 c = c.column.ensures ∙ sym (second-own _ _ (rw c.row_cell.ensures at c.if-row_cell-lt15.true))

pub returns : goal.returns
returns c = c.column-2.ensures ∙ sym (second-other _ _ (rw c.row_cell.ensures at c.if-row_cell-lt15.false))
