-- `wording::put_common` meets its contract: the part of the sentences that it puts is that one.
use native.Mathlib.Omega.{arith}
use Rattle.wording.proofs.Parts.{sentence-put, sentence-none}
use Rattle.wording.proofs.put_common.Goals as goal

pub returns-then-n-gt85 : goal.returns-then-n-gt85
returns-then-n-gt85 c = sentence-none _ _ _ _ _ c.if-n-gt85.true

pub returns : goal.returns
returns c = sentence-put _ _ _ _ _ (omega arith) c.sentences-sentences.ensures c.sentence_start.ensures c.sentence_start-2.ensures c.part-sentence.ensures c.put_filled.ensures
