-- `reason_text::put_told` meets its contract.
use Rattle.reason_text.proofs.Lines.{sentence-put}
use Rattle.reason_text.proofs.put_told.Goals as goal

pub returns : goal.returns
returns c = sentence-put _ _ _ _ _ c.slots_of-slots.ensures c.value_shown-value.ensures c.sentence_number-n.ensures c.put_sentence.ensures
