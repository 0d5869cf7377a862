-- `gate::try_change` meets its contract: a workspace of its own is room enough.
-- Assumes nothing.
use native.Mathlib.Omega.{arith}
use Rattle.gate_lists.specs.Which.{gate_called}
use Rattle.schedule.proofs.Laws.{marks-are}
use Rattle.gate.proofs.Laws.{room-there}
use Rattle.gate.proofs.try_change.Goals as goal

pub try_change-requires : goal.try_change-requires
unfolding gate_called
try_change-requires c = (omega arith, (omega arith, (marks-are, (room-there (omega arith), omega arith))))
