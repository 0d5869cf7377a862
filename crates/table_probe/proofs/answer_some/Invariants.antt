-- `table_probe::answer_some` is safe and ends: each answer uses 40 bytes or more of an output that keeps its length.
use Prim.Native.Nat.{◌-◌, ◌≤◌}
use mathlib.Core.Path.{◌≡◌}
use lib.ListN.{length}
use Rattle.table_probe.proofs.answer_some.Given as goal

abbrev pub invariant-loop-used : goal.invariant-loop-used
invariant-loop-used g l = (l.used ≤ length l.out) × (length l.buf ≡ length l.initial.buf) × (length l.cells ≡ length l.initial.cells) × (length l.out ≡ length l.initial.out)

abbrev pub decreases-loop-used : goal.decreases-loop-used
decreases-loop-used g l = length l.out - l.used
