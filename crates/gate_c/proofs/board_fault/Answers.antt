-- `gate_c::board_fault` meets its contract.
use Rattle.gate_c.proofs.Laws.{board-unknown, board-wrong, board-right}
use Rattle.gate_c.proofs.board_fault.Goals as goal

pub returns-then-gate-gt2 : goal.returns-then-gate-gt2
returns-then-gate-gt2 c = board-unknown _ _ c.if-gate-gt2.true

pub returns-then-not-have_length : goal.returns-then-not-have_length
returns-then-not-have_length c = board-wrong _ _ c.if-gate-gt2.false c.which_of.ensures c.mark_count-n.ensures c.have_length.ensures c.if-not-have_length.true

pub returns : goal.returns
returns c = board-right _ _ c.if-gate-gt2.false c.which_of.ensures c.mark_count-n.ensures c.have_length.ensures c.if-not-have_length.false
