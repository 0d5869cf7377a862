-- `gate_c::knotsaddle_try` meets its contract: with a fault of its own it leaves everything as it is.
use Rattle.mark_numbers.specs.Marks.{marks_in}
use Rattle.gate_c.proofs.Laws.{size_fits, try-ill, try-well}
use Rattle.gate_c.proofs.knotsaddle_try.Goals as goal

pub returns-then-fault-ne0 : goal.returns-then-fault-ne0
returns-then-fault-ne0 c = let whole = try-ill c.args.gate c.args.bundle.now c.args.file c.args.present c.args.new_bytes.now (marks_in c.args.kinds.now c.args.places.now c.args.companions.now) c.args.size.now c.args.work.now c.call_fault-fault.ensures c.if-fault-ne0.true in record { value = whole.0; board_after = whole.1.0; size_after = whole.1.1.0; work_after = whole.1.1.1 }

pub put_size-requires : goal.put_size-requires
put_size-requires c = size_fits _ _ _ _ c.call_fault-fault.ensures c.if-fault-ne0.false

pub returns : goal.returns
returns c = let whole = try-well c.args.gate c.args.bundle.now c.args.file c.args.present c.args.new_bytes.now (marks_in c.args.kinds.now c.args.places.now c.args.companions.now) c.args.size.now c.args.work.now c.call_fault-fault.ensures c.if-fault-ne0.false c.which_of.ensures (c.try_lists-tried.ensures.value, (c.try_lists-tried.ensures.board_after, c.try_lists-tried.ensures.work_after)) (c.put_size.ensures.value, c.put_size.ensures.size_after) in record { value = whole.0; board_after = whole.1.0; size_after = whole.1.1.0; work_after = whole.1.1.1 }
