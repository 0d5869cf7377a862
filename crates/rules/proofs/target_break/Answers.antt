-- `rules::target_break` meets its contract: the rule's answer names no other record.
use mathlib.Core.Path.{ap, ◌∙◌}
use Rattle.rules.specs.Judge.{alone}
use Rattle.rules.proofs.target_break.Goals as goal

pub returns : goal.returns
returns c = c.alone.ensures ∙ ap alone c.target_rule_by_order.ensures
