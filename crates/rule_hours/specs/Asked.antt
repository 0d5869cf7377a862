-- For the code's sake alone: the four questions to a field as one, so that one loop serves them all.
use Rattle.std.specs.Prelude.{ℕ, Bool}
use Rattle.rule_cells.specs.Cells.{Table, is_given}
use Rattle.rule_hours.specs.declared.Ask.{Ask}
use Rattle.rule_hours.specs.declared.Ask.TheVariants.{Negative, Positive, Given, Null}
use Rattle.rule_hours.specs.Hours.{lies_below, is_above, is_null}

unfoldable pub passes : Ask → Table → ℕ → ℕ → Bool
passes Negative t = lies_below t
passes Positive t = is_above t
passes Given t = is_given t.cells t.width
passes Null t = is_null t.cells t.width
