-- `wording::put_contract` meets its contract: the part of the sentences that it puts is that one.
use native.Mathlib.Omega.{arith}
use Rattle.wording.proofs.Parts.{contract-put, contract-none}
use Rattle.wording.proofs.put_contract.Goals as goal

pub returns-then-n-gt15 : goal.returns-then-n-gt15
returns-then-n-gt15 c = contract-none _ _ _ _ _ c.if-n-gt15.true

pub returns : goal.returns
returns c = contract-put _ _ _ _ _ (omega arith) c.contract_sentences-sentences.ensures c.contract_start.ensures c.contract_start-2.ensures c.part-sentence.ensures c.put_filled.ensures
