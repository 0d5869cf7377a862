-- `rule_shape::first_file` meets its contract: whatever the shape, the file is the second number of the row.
use mathlib.Core.Path.{sym, ◌∙◌}
use Rattle.rule_shape.proofs.Laws.{first-is}
use Rattle.rule_shape.proofs.first_file.Goals as goal

pub returns : goal.returns
returns c = c.column.ensures ∙ sym (first-is _ _)
