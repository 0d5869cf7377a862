-- `wording::put_sentence` meets its contract: it is one of the first list, or one of the contract side's.
use Rattle.wording.proofs.Parts.{first-put, further-put}
use Rattle.wording.proofs.put_sentence.Goals as goal

pub returns-then-n-lt100 : goal.returns-then-n-lt100
returns-then-n-lt100 c = first-put _ _ _ _ _ c.if-n-lt100.true c.put_common.ensures

pub returns : goal.returns
returns c = further-put _ _ _ _ _ c.if-n-lt100.false c.put_contract.ensures
