-- `desks_c::knotsaddle_desks_try` meets its contract: with a fault of its own it leaves everything as it is.
use Rattle.mark_numbers.specs.Marks.{marks_in}
use Rattle.desks_calls.specs.Desks.{long_enough}
use Rattle.desks_c.proofs.Laws.{lists-fit, try-ill, try-well}
use Rattle.desks_c.proofs.knotsaddle_desks_try.Goals as goal

pub returns-then-fault-ne0 : goal.returns-then-fault-ne0
returns-then-fault-ne0 c = let whole = try-ill c.args.a.now c.args.b.now c.args.shared.now (marks_in c.args.kinds_a.now c.args.places_a.now c.args.companions_a.now) (marks_in c.args.kinds_b.now c.args.places_b.now c.args.companions_b.now) c.args.whose c.args.file c.args.present c.args.new_bytes.now c.args.refusals.now c.args.size.now c.args.work.now c.call_fault-fault.ensures long_enough c.if-fault-ne0.true in record { value = whole.0; board_a_after = whole.1.0; board_b_after = whole.1.1.0; refusals_after = whole.1.1.1.0; size_after = whole.1.1.1.1.0; work_after = whole.1.1.1.1.1 }

pub put_answer-requires : goal.put_answer-requires
put_answer-requires c = lists-fit _ _ _ _ c.call_fault-fault.ensures c.if-fault-ne0.false

pub returns : goal.returns
returns c = let whole = try-well c.args.a.now c.args.b.now c.args.shared.now (marks_in c.args.kinds_a.now c.args.places_a.now c.args.companions_a.now) (marks_in c.args.kinds_b.now c.args.places_b.now c.args.companions_b.now) c.args.whose c.args.file c.args.present c.args.new_bytes.now c.args.refusals.now c.args.size.now c.args.work.now c.call_fault-fault.ensures c.if-fault-ne0.false c.whose_of.ensures long_enough (c.answer_lists-answer.ensures.value, (c.answer_lists-answer.ensures.board_a_after, (c.answer_lists-answer.ensures.board_b_after, c.answer_lists-answer.ensures.work_after))) (c.put_answer.ensures.refusals_after, c.put_answer.ensures.size_after) in record { value = whole.0; board_a_after = whole.1.0; board_b_after = whole.1.1.0; refusals_after = whole.1.1.1.0; size_after = whole.1.1.1.1.0; work_after = whole.1.1.1.1.1 }
