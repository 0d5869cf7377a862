-- `gate_baseline::reason` meets its contract: a workspace of its own is room enough.
-- Assumes nothing.
use native.Mathlib.Omega.{arith}
use Rattle.gate_lists.specs.Which.{gate_called}
use Rattle.gate_baseline.proofs.Laws.{room-there}
use Rattle.gate_baseline.proofs.reason.Goals as goal

pub reason-requires-clause-room : goal.reason-requires-clause-room
unfolding gate_called
reason-requires-clause-room c = room-there (omega arith)
