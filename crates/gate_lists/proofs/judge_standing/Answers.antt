-- `gate_lists::judge_standing` meets its contract: the marks of the gate that was called.
use lib.ListN.{length}
use Rattle.standing.specs.Standing.{standing}
use Rattle.mark_numbers.specs.Marks.{marks_in}
use Rattle.schedule.proofs.Laws.{judged-as}
use Rattle.gate_lists.proofs.Answers.{is-schedule, is-baseline, is-contract}
use Rattle.gate_lists.proofs.judge_standing.Goals as goal

pub returns-in-Schedule : goal.returns-in-Schedule
returns-in-Schedule c = let whole = judged-as (is-schedule c.in-Schedule.is) c.args.scope (standing c.args.a.now c.args.b.now c.args.c.now c.args.stand.now) (length c.args.work.now) (marks_in c.args.kinds.now c.args.places.now c.args.companions.now) c.args.work.now (c.schedule_marks.ensures.value, (c.schedule_marks.ensures.board_after, c.schedule_marks.ensures.work_after)) in record { value = whole.0; board_after = whole.1.0; work_after = whole.1.1 }

pub returns-in-Baseline : goal.returns-in-Baseline
returns-in-Baseline c = let whole = judged-as (is-baseline c.in-Baseline.is) c.args.scope (standing c.args.a.now c.args.b.now c.args.c.now c.args.stand.now) (length c.args.work.now) (marks_in c.args.kinds.now c.args.places.now c.args.companions.now) c.args.work.now (c.baseline_marks.ensures.value, (c.baseline_marks.ensures.board_after, c.baseline_marks.ensures.work_after)) in record { value = whole.0; board_after = whole.1.0; work_after = whole.1.1 }

pub returns-in-Contract : goal.returns-in-Contract
returns-in-Contract c = let whole = judged-as (is-contract c.in-Contract.is) c.args.scope (standing c.args.a.now c.args.b.now c.args.c.now c.args.stand.now) (length c.args.work.now) (marks_in c.args.kinds.now c.args.places.now c.args.companions.now) c.args.work.now (c.contract_marks.ensures.value, (c.contract_marks.ensures.board_after, c.contract_marks.ensures.work_after)) in record { value = whole.0; board_after = whole.1.0; work_after = whole.1.1 }
