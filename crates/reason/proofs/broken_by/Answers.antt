-- `reason::broken_by` meets its contract, with a table searched and without.
-- Assumes nothing.
use Rattle.reason.proofs.Found.{missing-is, broken-is}
use Rattle.reason.proofs.broken_by.Goals as goal

pub returns-in-In : goal.returns-in-In
returns-in-In c = missing-is _ _ c.searched_in-searched.ensures _ c.in-In.is

pub returns-in-Nowhere : goal.returns-in-Nowhere
returns-in-Nowhere c = broken-is _ _ c.searched_in-searched.ensures c.in-Nowhere.is
