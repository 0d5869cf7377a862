-- `reason::value_length` meets its contract, of a value and of a null.
-- Assumes nothing.
use Rattle.reason.proofs.Found.{length-given, length-null}
use Rattle.reason.proofs.value_length.Goals as goal

pub returns-then-is_given : goal.returns-then-is_given
returns-then-is_given c = length-given _ _ _ _ c.is_given.ensures c.end_of.ensures c.start_of.ensures c.less.ensures c.if-is_given.true

pub returns : goal.returns
returns c = length-null _ _ _ _ c.is_given.ensures c.if-is_given.false
