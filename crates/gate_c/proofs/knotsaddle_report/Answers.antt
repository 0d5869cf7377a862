-- `gate_c::knotsaddle_report` meets its contract: no text of a board with a fault.
use Rattle.mark_numbers.specs.Marks.{marks_in}
use Rattle.gate_c.proofs.Laws.{text-ill, text-well}
use Rattle.gate_c.proofs.knotsaddle_report.Goals as goal

pub returns-then-board_fault-ne0 : goal.returns-then-board_fault-ne0
returns-then-board_fault-ne0 c = let whole = text-ill _ _ _ _ c.board_fault.ensures c.if-board_fault-ne0.true in record { value = whole.0; out_after = whole.1 }

pub returns : goal.returns
returns c = let whole = text-well c.args.gate c.args.refusal (marks_in c.args.kinds.now c.args.places.now c.args.companions.now) c.args.out.now c.board_fault.ensures c.if-board_fault-ne0.false c.report.ensures.value c.report.ensures.out_after in record { value = whole.0; out_after = whole.1 }
