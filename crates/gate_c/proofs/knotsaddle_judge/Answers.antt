-- `gate_c::knotsaddle_judge` meets its contract: a judgement by the gate of that number.
use Rattle.mark_numbers.specs.Marks.{marks_in}
use Rattle.gate_c.proofs.Laws.{judge-unknown, judge-known}
use Rattle.gate_c.proofs.knotsaddle_judge.Goals as goal

pub returns-then-gate-gt2 : goal.returns-then-gate-gt2
returns-then-gate-gt2 c = let whole = judge-unknown c.args.gate c.args.bundle.now (marks_in c.args.kinds.now c.args.places.now c.args.companions.now) c.args.work.now c.if-gate-gt2.true in record { value = whole.0; board_after = whole.1.0; work_after = whole.1.1 }

pub returns : goal.returns
returns c = let whole = judge-known c.args.gate c.args.bundle.now (marks_in c.args.kinds.now c.args.places.now c.args.companions.now) c.args.work.now c.if-gate-gt2.false c.which_of.ensures (c.judge_lists.ensures.value, (c.judge_lists.ensures.board_after, c.judge_lists.ensures.work_after)) in record { value = whole.0; board_after = whole.1.0; work_after = whole.1.1 }
