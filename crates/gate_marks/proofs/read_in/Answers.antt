-- `gate_marks::read_in` meets its contract, in either case.
-- Assumes nothing.
use Rattle.gate_marks.proofs.Reading.{read-either, start-cleared, start-kept}
use Rattle.gate_marks.proofs.read_in.Goals as goal

pub returns-then-cleared : goal.returns-then-cleared
returns-then-cleared c = let whole = read-either _ _ _ _ (start-cleared _ _ c.if-cleared.true) (c.read_own.ensures.value, c.read_own.ensures.cells_after) in record { value = whole.0; cells_after = whole.1 }

pub returns : goal.returns
returns c = let whole = read-either _ _ _ _ (start-kept _ _ c.if-cleared.false) (c.read_over.ensures.value, c.read_over.ensures.cells_after) in record { value = whole.0; cells_after = whole.1 }
