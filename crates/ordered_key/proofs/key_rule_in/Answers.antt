-- `ordered_key::key_rule_in` meets its contract: where the lists are fit the order by sums and keys gives the rule's answer.
use Rattle.ordered_key.proofs.Rule.{filled-gives-rule}
use Rattle.ordered_key.proofs.key_rule_in.Goals as goal

pub returns-then-order_by_sums : goal.returns-then-order_by_sums
returns-then-order_by_sums c = filled-gives-rule _ _ _ _ _ _ _ _ _ _ _ _ c.if-key-eq1.true c.if-order-table.true c.fill_key_sums.ensures c.order_by_sums.ensures.0 c.if-order_by_sums.true c.order_by_sums.ensures.1 c.order_break.ensures
