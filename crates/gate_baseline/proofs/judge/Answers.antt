-- `gate_baseline::judge` meets its contract: a workspace of its own is room enough.
-- Assumes nothing.
use native.Mathlib.Omega.{arith}
use Rattle.gate_lists.specs.Which.{gate_called}
use Rattle.baseline.proofs.Laws.{marks-are}
use Rattle.gate_baseline.proofs.Laws.{room-there}
use Rattle.gate_baseline.proofs.judge.Goals as goal

pub judge-requires : goal.judge-requires
unfolding gate_called
judge-requires c = (omega arith, (marks-are, (room-there (omega arith), omega arith)))
