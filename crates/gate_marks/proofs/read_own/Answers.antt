-- `gate_marks::read_own` meets its contract: the cells were cleared before the file was read over them.
-- Assumes nothing.
use Rattle.gate_marks.proofs.Reading.{read-cleared}
use Rattle.gate_marks.proofs.read_own.Goals as goal

pub returns : goal.returns
returns c = let whole = read-cleared _ _ c.clear.ensures (c.read_over.ensures.value, c.read_over.ensures.cells_after) in record { value = whole.0; cells_after = whole.1 }
