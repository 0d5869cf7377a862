-- `gate_marks::cells_in` meets its contract: past the 32nd file, in the list, and past its end.
-- Assumes nothing.
use Rattle.gate_marks.proofs.Rooms.{cells-past, cells-short, cells-found}
use Rattle.gate_marks.proofs.cells_in.Goals as goal

pub returns-then-k-ge32 : goal.returns-then-k-ge32
returns-then-k-ge32 c = cells-past _ _ _ _ c.if-k-ge32.true

pub returns-then-fill_starts : goal.returns-then-fill_starts
returns-then-fill_starts c = cells-found _ _ _ _ c.if-k-ge32.false _ (c.fill_starts.ensures.starts c.if-fill_starts.true) c.cells_of.ensures

pub returns : goal.returns
returns c = cells-short _ _ c.args.work.now _ c.if-k-ge32.false c.fill_starts.ensures.value c.if-fill_starts.false
