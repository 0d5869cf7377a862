-- `quarter_text::put_last_four` meets its contract: one digit behind the other.
-- Assumes nothing.
use Rattle.quarter_text.proofs.Figures.{four-put}
use Rattle.quarter_text.proofs.put_last_four.Goals as goal

pub returns : goal.returns
returns c = four-put _ _ c.put_digit-first.ensures c.put_digit-second.ensures c.put_digit-third.ensures c.put_digit.ensures
