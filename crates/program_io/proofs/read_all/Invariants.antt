-- `program_io::read_all` meets its contract: each turn reads at least one byte more into a buffer that keeps its length.
use Rattle.std.proofs.Common.{length, ◌-◌, ◌≤◌}
use Rattle.program_io.proofs.read_all.Given as goal

abbrev pub invariant-loop-n : goal.invariant-loop-n
invariant-loop-n g l = l.n ≤ length l.buf

abbrev pub decreases-loop-n : goal.decreases-loop-n
decreases-loop-n g l = length l.buf - l.n
