-- `plain_rules::target_plain` meets its contract: the rule names no other record.
use mathlib.Core.Path.{ap}
use Rattle.rules.specs.Judge.{alone}
use Rattle.plain_rules.proofs.target_plain.Goals as goal

pub returns : goal.returns
returns c = ap alone c.target_rule-record.ensures
