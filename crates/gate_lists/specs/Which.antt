-- The gates that there are, and what a call over lists answers.
use Rattle.std.specs.Prelude.{ℕ}
use Rattle.bundle.specs.declared.Made.{Made}
use Rattle.gate_marks.specs.Gate.{Gate}
use Rattle.gate_calls.specs.Calls.{Answer}
use Rattle.schedule.specs.Schedule.{schedule}
use Rattle.baseline.specs.Baseline.{baseline}
use Rattle.contract.specs.Contract.{contract}
use Rattle.gate_lists.specs.declared.Which.{Which}
use Rattle.gate_lists.specs.declared.Which.TheVariants.{Schedule, Baseline, Contract}

unfoldable pub gate_called : Which → Gate
gate_called Schedule = schedule
gate_called Baseline = baseline
gate_called Contract = contract

-- the numbers of an answer; its marks are in the lists
unfoldable pub made_of : Answer → Made
made_of x = record { refusal = x.refusal; length = x.length }
