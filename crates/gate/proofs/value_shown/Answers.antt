-- `gate::value_shown` meets its contract, by the variant of the answer.
-- Assumes nothing.
use Rattle.gate_calls.specs.Reasons.{value_shown}
use Rattle.gate.proofs.Laws.{none-shown}
use Rattle.gate.proofs.value_shown.Goals as goal

pub returns-in-Broken : goal.returns-in-Broken
unfolding value_shown
returns-in-Broken c = rw c.in-Broken.is c.shown_part.ensures

pub returns-in-Missing : goal.returns-in-Missing
unfolding value_shown
returns-in-Missing c = rw c.in-Missing.is c.shown_part-in-Missing.ensures

pub returns-in_default : goal.returns-in_default
returns-in_default c = none-shown c.args.bundle.now _ c.in_default.not-Broken c.in_default.not-Missing
