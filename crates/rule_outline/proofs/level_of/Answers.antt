-- `rule_outline::level_of` meets its contract: a digit that stands alone is the Integer, and an Integer of a table is small
-- enough to be raised.
use mathlib.Core.Path.{sym, ◌∙◌}
use native.Mathlib.Omega.{arith}
use Rattle.rule_outline.proofs.Laws.{integer-small, level-below, level-above, level-digit}
use Rattle.rule_cells.specs.Cells.{integer_in}
use Rattle.rule_outline.proofs.level_of.Goals as goal

pub returns-then-digit-lt10 : goal.returns-then-digit-lt10
returns-then-digit-lt10 c = level-digit _ _ _ (sym c.is_given.ensures ∙ c.if-is_given.true) c.start_of.ensures c.one_digit-digit.ensures c.if-digit-lt10.true

pub overflow_sub-result : goal.overflow_sub-result
overflow_sub-result c = omega (arith, integer-small _ _ _ (sym c.integer_in.ensures ∙ c.in-Is.is))

pub returns-then-negative : goal.returns-then-negative
unfolding integer_in
returns-then-negative c = level-below _ _ _ c.integer_in.ensures c.in-Is.is c.if-negative.true

pub overflow_add-result-else-negative : goal.overflow_add-result-else-negative
overflow_add-result-else-negative c = omega (arith, integer-small _ _ _ (sym c.integer_in.ensures ∙ c.in-Is.is))

pub returns-else-negative : goal.returns-else-negative
unfolding integer_in
returns-else-negative c = level-above _ _ _ c.integer_in.ensures c.in-Is.is c.if-negative.false
