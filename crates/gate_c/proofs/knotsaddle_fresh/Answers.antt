-- `gate_c::knotsaddle_fresh` meets its contract: it writes nothing to a board with a fault.
use Rattle.gate_c.proofs.Laws.{fresh-ill, fresh-well}
use Rattle.gate_c.proofs.knotsaddle_fresh.Goals as goal

pub returns-then-fault-ne0 : goal.returns-then-fault-ne0
returns-then-fault-ne0 c = let whole = fresh-ill _ _ c.board_fault-fault.ensures c.if-fault-ne0.true in record { value = whole.0; board_after = whole.1 }

pub returns : goal.returns
returns c = let whole = fresh-well _ _ c.board_fault-fault.ensures c.if-fault-ne0.false c.make_fresh.ensures in record { value = whole.0; board_after = whole.1 }
