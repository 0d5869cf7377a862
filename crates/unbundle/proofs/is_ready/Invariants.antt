-- `unbundle::is_ready` is safe and ends: each turn asks for one name more, and the path keeps its length.
use mathlib.Core.Path.{◌≡◌}
use lib.ListN.{length}
use Rattle.unbundle.proofs.is_ready.Given as goal

abbrev pub invariant-loop-k : goal.invariant-loop-k
invariant-loop-k g l = length l.path ≡ length l.initial.path
