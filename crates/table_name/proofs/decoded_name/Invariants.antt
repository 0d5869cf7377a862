-- `table_name::decoded_name` meets its contract: the characters put down and those left are those of the name.
use Prim.Native.Nat.{◌-◌}
use lib.ListN.{length}
use Rattle.table_name.proofs.Spelling.{Spelled}
use Rattle.table_name.proofs.decoded_name.Given as goal

abbrev pub invariant-loop-code : goal.invariant-loop-code
invariant-loop-code l = Spelled l.s l.at l.word l.n l.i

abbrev pub decreases-loop-code : goal.decreases-loop-code
decreases-loop-code l = length l.s - l.i
