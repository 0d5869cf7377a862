-- `gate_lists::reason_standing` meets its contract: what is told of the gate that was called.
use lib.ListN.{length}
use Rattle.standing.specs.Standing.{standing, start_standing}
use Rattle.schedule.proofs.Laws.{told-as}
use Rattle.gate_lists.proofs.Answers.{is-schedule, is-baseline, is-contract}
use Rattle.gate_lists.proofs.reason_standing.Goals as goal

pub returns-in-Schedule : goal.returns-in-Schedule
returns-in-Schedule c = let whole = told-as (is-schedule c.in-Schedule.is) (start_standing c.args.a.now c.args.b.now c.args.c.now c.args.stand.now) (standing c.args.a.now c.args.b.now c.args.c.now c.args.stand.now) (length c.args.work.now) c.args.mark c.args.work.now (c.schedule_reason.ensures.value, c.schedule_reason.ensures.work_after) in record { value = whole.0; work_after = whole.1 }

pub returns-in-Baseline : goal.returns-in-Baseline
returns-in-Baseline c = let whole = told-as (is-baseline c.in-Baseline.is) (start_standing c.args.a.now c.args.b.now c.args.c.now c.args.stand.now) (standing c.args.a.now c.args.b.now c.args.c.now c.args.stand.now) (length c.args.work.now) c.args.mark c.args.work.now (c.baseline_reason.ensures.value, c.baseline_reason.ensures.work_after) in record { value = whole.0; work_after = whole.1 }

pub returns-in-Contract : goal.returns-in-Contract
returns-in-Contract c = let whole = told-as (is-contract c.in-Contract.is) (start_standing c.args.a.now c.args.b.now c.args.c.now c.args.stand.now) (standing c.args.a.now c.args.b.now c.args.c.now c.args.stand.now) (length c.args.work.now) c.args.mark c.args.work.now (c.contract_reason.ensures.value, c.contract_reason.ensures.work_after) in record { value = whole.0; work_after = whole.1 }
