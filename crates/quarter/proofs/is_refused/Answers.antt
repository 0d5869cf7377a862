-- `quarter::is_refused` meets its contract: by the count of sets, and else by the totals.
-- Assumes nothing.
use Rattle.quarter.proofs.Laws.{too-many-sets, by-totals}
use Rattle.quarter.proofs.is_refused.Goals as goal

pub returns-then-sets-ge-MOST_SETS : goal.returns-then-sets-ge-MOST_SETS
returns-then-sets-ge-MOST_SETS c = too-many-sets _ c.if-sets-ge-MOST_SETS.true

pub returns : goal.returns
returns c = by-totals _ c.if-sets-ge-MOST_SETS.false c.some_far.ensures
