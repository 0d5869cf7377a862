-- `gate_baseline::reason_in` meets its contract: it is the call over lists.
-- Assumes nothing.
use Rattle.gate_lists.specs.Which.{gate_called}
use Rattle.gate_baseline.proofs.reason_in.Goals as goal

pub returns : goal.returns
unfolding gate_called
returns c = record { value = c.reason_lists.ensures.value; work_after = c.reason_lists.ensures.work_after }
