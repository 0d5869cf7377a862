-- `wording::kind_sentence` meets its contract: for each gate it is that number.
use Rattle.wording.specs.Sentences.{of_kind}
use Rattle.wording.proofs.kind_sentence.Goals as goal

pub returns-in-Schedule : goal.returns-in-Schedule
unfolding of_kind
returns-in-Schedule c = rw c.in-Schedule.is c.kind_among.ensures

pub returns-in-Baseline : goal.returns-in-Baseline
unfolding of_kind
returns-in-Baseline c = rw c.in-Baseline.is c.kind_among-in-Baseline.ensures

pub returns-in-Contract : goal.returns-in-Contract
unfolding of_kind
returns-in-Contract c = rw c.in-Contract.is c.contract_kind.ensures
