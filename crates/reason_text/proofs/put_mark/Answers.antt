-- `reason_text::put_mark` meets its contract: none for a mark that is silent.
use Rattle.reason_text.proofs.Lines.{mark-none, mark-put}
use Rattle.reason_text.proofs.put_mark.Goals as goal

pub returns-then-is_silent : goal.returns-then-is_silent
returns-then-is_silent c = mark-none _ _ _ _ _ _ c.is_silent.ensures c.if-is_silent.true

pub returns : goal.returns
returns c = mark-put _ _ _ _ _ _ c.is_silent.ensures c.if-is_silent.false c.reason_of-told.ensures c.put_line.ensures
