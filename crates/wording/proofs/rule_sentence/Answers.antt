-- `wording::rule_sentence` meets its contract: for each gate it is that number.
use Rattle.wording.specs.Sentences.{of_rule}
use Rattle.wording.proofs.rule_sentence.Goals as goal

pub returns-in-Schedule : goal.returns-in-Schedule
unfolding of_rule
returns-in-Schedule c = rw c.in-Schedule.is c.less_20.ensures

pub returns-in-Baseline : goal.returns-in-Baseline
unfolding of_rule
returns-in-Baseline c = rw c.in-Baseline.is c.less_20-in-Baseline.ensures

pub returns-in-Contract : goal.returns-in-Contract
unfolding of_rule
returns-in-Contract c = rw c.in-Contract.is c.contract_rule.ensures
