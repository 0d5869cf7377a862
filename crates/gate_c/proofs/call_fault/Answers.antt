-- `gate_c::call_fault` meets its contract.
use Rattle.gate_c.proofs.Laws.{fault-board, fault-size, fault-present, fault-none}
use Rattle.gate_c.proofs.call_fault.Goals as goal

pub returns-then-fault-ne0 : goal.returns-then-fault-ne0
returns-then-fault-ne0 c = fault-board _ _ _ _ c.board_fault-fault.ensures c.if-fault-ne0.true

pub returns-then-size-ne1 : goal.returns-then-size-ne1
returns-then-size-ne1 c = fault-size _ _ _ _ c.board_fault-fault.ensures c.if-fault-ne0.false c.if-size-ne1.true

pub returns-then-present-gt1 : goal.returns-then-present-gt1
returns-then-present-gt1 c = fault-present _ _ _ _ c.board_fault-fault.ensures c.if-fault-ne0.false c.if-size-ne1.false c.if-present-gt1.true

pub returns : goal.returns
returns c = fault-none _ _ _ _ c.board_fault-fault.ensures c.if-fault-ne0.false c.if-size-ne1.false c.if-present-gt1.false
