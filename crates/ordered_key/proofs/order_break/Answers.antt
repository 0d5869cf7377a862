-- `ordered_key::order_break` meets its contract: where no record repeats another, none breaks the rule.
use Rattle.ordered_key.proofs.Rule.{none-breaks}
use Rattle.ordered_key.proofs.order_break.Goals as goal

pub returns-then-first-eq0 : goal.returns-then-first-eq0
returns-then-first-eq0 c = none-breaks _ _ _ _ c.first_repeat-first.ensures c.if-first-eq0.true
