-- `key_sum::key_sum` meets its contract: what is left, summed from here on, gives the sum of the whole.
-- Assumes nothing.
use Rattle.std.proofs.Common.{◌-◌, length}
use Rattle.key_sum.proofs.Laws.{Summed}
use Rattle.key_sum.proofs.key_sum.Given as goal

abbrev pub invariant-loop-sum : goal.invariant-loop-sum
invariant-loop-sum l = Summed l.s l.at l.i l.sum

abbrev pub decreases-loop-sum : goal.decreases-loop-sum
decreases-loop-sum l = length l.s - l.i
