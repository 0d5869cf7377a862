-- `reason::unread_of` meets its contract, in either order of the two files.
-- Assumes nothing.
use Rattle.reason.proofs.Found.{unread-turned, unread-order}
use Rattle.reason.proofs.unread_of.Goals as goal

pub returns-then-second-first : goal.returns-then-second-first
returns-then-second-first c = unread-turned _ c.args.kinds.now _ c.first_file-first.ensures c.second_file-second.ensures c.if-second-first.true c.lowest_of.ensures

pub returns : goal.returns
returns c = unread-order _ c.args.kinds.now _ c.first_file-first.ensures c.second_file-second.ensures c.if-second-first.false c.lowest_of-2.ensures
