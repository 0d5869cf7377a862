-- `gates_probe::answer_all` is safe and ends: the buffers keep their lengths.
use mathlib.Core.Path.{◌≡◌}
use lib.ListN.{length}
use Rattle.gates_probe.proofs.answer_all.Given as goal

abbrev pub invariant-loop : goal.invariant-loop
invariant-loop g l = (length l.buf ≡ length l.initial.buf) × (length l.news ≡ length l.initial.news) × (length l.out ≡ length l.initial.out) × (length l.bytes ≡ length l.initial.bytes) × (length l.work ≡ length l.initial.work)
