-- `text_place::line_and_column` meets its contract. The walk keeps the spot behind the bytes that it has passed.
use Prim.Native.Nat.{◌+◌, ◌≤◌}
use Rattle.text_place.proofs.Laws.{Behind}
use Rattle.text_place.proofs.line_and_column.Given as goal

abbrev pub invariant-loop-b : goal.invariant-loop-b
invariant-loop-b l = Behind l.s l.b-index l.line l.column × (l.line ≤ l.b-index + 1) × (l.column ≤ l.b-index + 1)
