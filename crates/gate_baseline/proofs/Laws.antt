-- A workspace of 794,702 numbers or more is room enough for this gate.
-- Assumes nothing.
use Prim.Native.Nat.{ℕ, ◌≤◌}
use mathlib.Core.Path.{◌≡◌}
use mathlib.Core.Bool.{true}
use borrow.Author.Tests.{le-leb}
use Rattle.gate_marks.specs.Again.{room_is_there}
use Rattle.baseline.specs.Baseline.{baseline}
use Rattle.baseline.proofs.Laws.{files-are, workspace-is}

pub room-there : {lent : ℕ} → 794702 ≤ lent → room_is_there baseline lent ≡ true
unfolding room_is_there
room-there {lent} w = rw (workspace-is, le-leb 794702 lent w, files-are)
