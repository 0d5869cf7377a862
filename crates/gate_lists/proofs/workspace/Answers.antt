-- `gate_lists::workspace` meets its contract: the number is the gate's, computed.
use mathlib.Core.Path.{sym, ap, ◌∙◌}
use Rattle.gate_marks.specs.Again.{workspace_of}
use Rattle.schedule.proofs.Laws.{workspace-is}
use Rattle.baseline.proofs.Laws.{workspace-is as baseline-workspace-is}
use Rattle.contract.proofs.Laws.{workspace-is as contract-workspace-is}
use Rattle.gate_lists.proofs.Answers.{is-schedule, is-baseline, is-contract}
use Rattle.gate_lists.proofs.workspace.Goals as goal

pub returns-in-Schedule : goal.returns-in-Schedule
returns-in-Schedule c = sym workspace-is ∙ ap workspace_of (is-schedule c.in-Schedule.is)

pub returns-in-Baseline : goal.returns-in-Baseline
returns-in-Baseline c = sym baseline-workspace-is ∙ ap workspace_of (is-baseline c.in-Baseline.is)

pub returns-in-Contract : goal.returns-in-Contract
returns-in-Contract c = sym contract-workspace-is ∙ ap workspace_of (is-contract c.in-Contract.is)
