-- `json_same::same_text` meets its contract: comparing what is left of the two strings answers as comparing the whole of them.
use Prim.Native.Nat.{◌-◌}
use lib.ListN.{length}
use Rattle.json_chars.specs.Chars.{chars_at}
use Rattle.json_same.specs.Same.{same_as}
use Rattle.json_same.proofs.Walk.{Both}
use Rattle.json_same.proofs.same_text.Given as goal

abbrev pub invariant-loop-case : goal.invariant-loop-case
invariant-loop-case l = Both l.case l.a l.x l.b l.y (same_as l.case (chars_at l.a l.i) (chars_at l.b l.j))

abbrev pub decreases-loop-case : goal.decreases-loop-case
decreases-loop-case l = length l.a - l.x
