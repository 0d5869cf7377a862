-- `json_text::words_end` meets its contract: what is passed up to the loop's head stands in words.
use Rattle.std.proofs.Common.{◌-◌, length}
use Rattle.json_text.proofs.Words.{Passed}
use Rattle.json_text.proofs.words_end.Given as goal

abbrev pub invariant-loop-k : goal.invariant-loop-k
invariant-loop-k l = Passed l.s l.i l.k

abbrev pub decreases-loop-k : goal.decreases-loop-k
decreases-loop-k l = length l.s - l.k
