-- `gate_lists::mark_count` meets its contract: the number is the gate's, computed.
use mathlib.Core.Path.{sym, ap, ◌∙◌}
use Rattle.gate_marks.specs.Gate.{marks_of}
use Rattle.schedule.proofs.Laws.{marks-are}
use Rattle.baseline.proofs.Laws.{marks-are as baseline-marks-are}
use Rattle.contract.proofs.Laws.{marks-are as contract-marks-are}
use Rattle.gate_lists.proofs.Answers.{is-schedule, is-baseline, is-contract}
use Rattle.gate_lists.proofs.mark_count.Goals as goal

pub returns-in-Schedule : goal.returns-in-Schedule
returns-in-Schedule c = sym marks-are ∙ ap marks_of (is-schedule c.in-Schedule.is)

pub returns-in-Baseline : goal.returns-in-Baseline
returns-in-Baseline c = sym baseline-marks-are ∙ ap marks_of (is-baseline c.in-Baseline.is)

pub returns-in-Contract : goal.returns-in-Contract
returns-in-Contract c = sym contract-marks-are ∙ ap marks_of (is-contract c.in-Contract.is)
