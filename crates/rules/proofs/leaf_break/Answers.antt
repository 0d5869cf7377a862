-- `rules::leaf_break` meets its contract: the rule's answer, which names no other record.
use mathlib.Core.Path.{ap, ◌∙◌}
use Rattle.rules.specs.Judge.{alone}
use Rattle.rules.proofs.leaf_break.Goals as goal

pub returns : goal.returns
returns c = c.alone.ensures ∙ ap alone c.leaf_rule_in.ensures
