-- `reason::lowest_of` meets its contract, whether the lower file can be read or not.
-- Assumes nothing.
use Rattle.reason.proofs.Found.{lowest-read, lowest-unread}
use Rattle.reason.proofs.lowest_of.Goals as goal

pub returns-then-is_readable : goal.returns-then-is_readable
returns-then-is_readable c = lowest-read _ _ _ c.is_readable.ensures c.if-is_readable.true

pub returns : goal.returns
returns c = lowest-unread _ _ _ c.is_readable.ensures c.if-is_readable.false
