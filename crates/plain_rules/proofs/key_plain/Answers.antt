-- `plain_rules::key_plain` meets its contract: the numbers of what the rule finds.
use mathlib.Core.Path.{ap}
use Rattle.rules.specs.Judge.{of_key}
use Rattle.plain_rules.proofs.key_plain.Goals as goal

pub returns : goal.returns
returns c = ap of_key c.key_rule-found.ensures
