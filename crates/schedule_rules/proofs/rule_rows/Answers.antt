-- `schedule_rules::rule_rows` meets its contract: the code's numbers are the rows of the document's rules, computed.
use mathlib.Core.Path.{refl}
use Rattle.schedule_rules.proofs.Opens.{open-rows}
use Rattle.schedule_rules.proofs.rule_rows.Goals as goal

pub returns : goal.returns
unfolding open-rows
returns c = refl
