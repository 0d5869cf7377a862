-- `schedule::schedule_reason` meets its contract: the rules that are lent are document 01's.
-- Assumes nothing.
use lib.ListN.{length}
use Rattle.standing.specs.Standing.{standing, start_standing}
use Rattle.schedule.proofs.Laws.{told-as, by-schedule}
use Rattle.schedule.proofs.schedule_reason.Goals as goal

pub returns : goal.returns
returns c = let whole = told-as (by-schedule c.rule_rows-rules.ensures) (start_standing c.args.a.now c.args.b.now c.args.c.now c.args.stand.now) (standing c.args.a.now c.args.b.now c.args.c.now c.args.stand.now) (length c.args.work.now) c.args.mark c.args.work.now (c.reason_by.ensures.value, c.reason_by.ensures.work_after) in record { value = whole.0; work_after = whole.1 }
