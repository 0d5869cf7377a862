-- `json_same::text_is` meets its contract: comparing what is left of the string with what is left of the word answers as
-- comparing the whole of them.
use Prim.Native.Nat.{◌-◌}
use lib.ListN.{length}
use Rattle.json_chars.specs.Chars.{chars_at}
use Rattle.json_same.specs.Same.{same_as}
use Rattle.json_same.proofs.Walk.{Worded}
use Rattle.json_same.proofs.text_is.Given as goal

abbrev pub invariant-loop-n : goal.invariant-loop-n
invariant-loop-n l = Worded l.case l.s l.i l.word l.k (same_as l.case (chars_at l.s l.at) l.word)

abbrev pub decreases-loop-n : goal.decreases-loop-n
decreases-loop-n l = length l.s - l.i
