-- `loops_probe::answer_all` is safe and ends: each turn leaves one less, and the buffers keep their lengths.
use mathlib.Core.Path.{◌≡◌}
use lib.ListN.{length}
use Rattle.loops_probe.proofs.answer_all.Given as goal

abbrev pub invariant-loop-turns : goal.invariant-loop-turns
invariant-loop-turns g l = (length l.buf ≡ length l.initial.buf) × (length l.list ≡ length l.initial.list) × (length l.work ≡ length l.initial.work) × (length l.out ≡ length l.initial.out)

abbrev pub decreases-loop-turns : goal.decreases-loop-turns
decreases-loop-turns g l = l.turns
