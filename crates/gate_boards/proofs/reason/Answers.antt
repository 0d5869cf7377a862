-- `gate_boards::reason` meets its contract: a workspace of its own is room enough.
-- Assumes nothing.
use Prim.Native.Nat.{ℕ}
use lib.ListN.{length-replicate}
use Rattle.gate_lists.specs.Which.{gate_called}
use Rattle.gate_boards.proofs.Laws.{own-reason}
use Rattle.gate_boards.proofs.reason.Goals as goal

pub returns : goal.returns
returns g c = own-reason (gate_called c.args.which) c.requires.room (length-replicate {A = ℕ} g.row.W 0) c.args.bundle.now c.args.mark c.reason_lists.ensures.value
