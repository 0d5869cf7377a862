-- A workspace of 188,416 numbers or more is room enough for this gate.
-- Assumes nothing.
use Prim.Native.Nat.{ℕ, ◌≤◌}
use mathlib.Core.Path.{◌≡◌}
use mathlib.Core.Bool.{true}
use borrow.Author.Tests.{le-leb}
use Rattle.gate_marks.specs.Again.{room_is_there}
use Rattle.contract.specs.Contract.{contract}
use Rattle.contract.proofs.Laws.{files-are, workspace-is}

pub room-there : {lent : ℕ} → 188416 ≤ lent → room_is_there contract lent ≡ true
unfolding room_is_there
room-there {lent} w = rw (workspace-is, le-leb 188416 lent w, files-are)
