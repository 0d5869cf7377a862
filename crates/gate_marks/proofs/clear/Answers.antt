-- `gate_marks::clear` meets its contract: the library's fill gives as many zeros.
-- Assumes nothing.
use Rattle.std.proofs.Common.{rules}
use Rattle.gate_marks.proofs.Rooms.{zeros-are}
use Rattle.gate_marks.proofs.clear.Goals as goal

pub returns : goal.returns
returns c = zeros-are _ _ (search rules)
