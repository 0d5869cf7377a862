-- `json_date::decoded_date` meets its contract: the characters collected and those left are those of the string.
use Prim.Native.Nat.{◌-◌}
use lib.ListN.{length}
use Rattle.json_chars.specs.Chars.{chars_at}
use Rattle.json_date.proofs.Collect.{Collected}
use Rattle.json_date.proofs.decoded_date.Given as goal

abbrev pub invariant-loop-code : goal.invariant-loop-code
invariant-loop-code l = Collected l.s l.i l.c l.n (chars_at l.s l.at)

abbrev pub decreases-loop-code : goal.decreases-loop-code
decreases-loop-code l = length l.s - l.i
