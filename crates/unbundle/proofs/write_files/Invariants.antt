-- `unbundle::write_files` is safe and ends: each turn writes one file more, and the path keeps its length.
use mathlib.Core.Path.{◌≡◌}
use lib.ListN.{length}
use Rattle.unbundle.proofs.write_files.Given as goal

abbrev pub invariant-loop-k : goal.invariant-loop-k
invariant-loop-k g l = length l.path ≡ length l.initial.path
