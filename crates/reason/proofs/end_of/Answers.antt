-- `reason::end_of` meets its contract, in the table and past each of its limits.
-- Assumes nothing.
use Rattle.reason.proofs.Found.{end-past-records, end-too-wide, end-past-fields, end-there}
use Rattle.reason.proofs.end_of.Goals as goal

pub returns-then-r-gt4096 : goal.returns-then-r-gt4096
returns-then-r-gt4096 c = end-past-records _ _ _ _ c.if-r-gt4096.true

pub returns-then-width-gt128 : goal.returns-then-width-gt128
returns-then-width-gt128 c = end-too-wide _ _ _ _ c.if-r-gt4096.false c.if-width-gt128.true

pub returns-then-k-ge64 : goal.returns-then-k-ge64
returns-then-k-ge64 c = end-past-fields _ _ _ _ c.if-r-gt4096.false c.if-width-gt128.false c.if-k-ge64.true

pub returns : goal.returns
returns c = end-there _ _ _ _ c.if-r-gt4096.false c.if-width-gt128.false c.if-k-ge64.false c.cell_at.ensures
