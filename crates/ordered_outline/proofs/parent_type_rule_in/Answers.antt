-- `ordered_outline::parent_type_rule_in` meets its contract: in step no record breaks, and where the lists are fit the lookup gives the rule's answer.
use mathlib.Core.Path.{sym}
use Rattle.rule_outline.specs.Outline.{outline_at}
use Rattle.ordered_outline.proofs.Laws.{filled-gives-rule}
use Rattle.ordered_outline.proofs.parent_type_rule_in.Goals as goal

pub returns-then-is_in_step : goal.returns-then-is_in_step
unfolding outline_at
returns-then-is_in_step c = sym (c.is_in_step.ensures c.if-is_in_step.true)

pub returns-then-key_order : goal.returns-then-key_order
returns-then-key_order c = filled-gives-rule _ _ _ _ _ _ _ _ _ _ _ _ _ _ _ _ _ _ _ _ _ _ _ _ c.first_with-typed.ensures c.if-typed-ne0.true c.start_of.ensures c.key_of.ensures c.if-order-tasks.true c.key_order.ensures.0 c.if-key_order.true c.key_order.ensures.1 c.key_order.ensures.2 c.first_breaking.ensures
