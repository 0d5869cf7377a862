-- `gate::make_change` meets its contract: a workspace of its own is room enough.
-- Assumes nothing.
use native.Mathlib.Omega.{arith}
use Rattle.gate_lists.specs.Which.{gate_called}
use Rattle.schedule.proofs.Laws.{files-are, marks-are}
use Rattle.gate.proofs.Laws.{room-there}
use Rattle.gate.proofs.make_change.Goals as goal

pub make_change-requires : goal.make_change-requires
unfolding gate_called
make_change-requires c = (omega arith, (omega arith, (marks-are, (room-there (omega arith), omega arith))))

pub returns-clause-out_after : goal.returns-clause-out_after
unfolding gate_called
returns-clause-out_after c = rw files-are at c.make_change.ensures.out_after
