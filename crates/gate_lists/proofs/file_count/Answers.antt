-- `gate_lists::file_count` meets its contract: the number is the gate's, computed.
use mathlib.Core.Path.{sym, ap, ◌∙◌}
use native.Mathlib.Omega.{arith}
use Rattle.gate_marks.specs.Gate.{Gate}
use Rattle.schedule.proofs.Laws.{files-are}
use Rattle.baseline.proofs.Laws.{files-are as baseline-files-are}
use Rattle.contract.proofs.Laws.{files-are as contract-files-are}
use Rattle.gate_lists.proofs.Answers.{is-schedule, is-baseline, is-contract}
use Rattle.gate_lists.proofs.file_count.Goals as goal

pub returns-in-Schedule : goal.returns-in-Schedule
returns-in-Schedule c = (sym files-are ∙ ap (λ (g : Gate). g.files) (is-schedule c.in-Schedule.is), omega arith)

pub returns-in-Baseline : goal.returns-in-Baseline
returns-in-Baseline c = (sym baseline-files-are ∙ ap (λ (g : Gate). g.files) (is-baseline c.in-Baseline.is), omega arith)

pub returns-in-Contract : goal.returns-in-Contract
returns-in-Contract c = (sym contract-files-are ∙ ap (λ (g : Gate). g.files) (is-contract c.in-Contract.is), omega arith)
