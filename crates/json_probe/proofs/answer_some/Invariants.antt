-- `json_probe::answer_some` is safe and ends: each turn uses 32 bytes more of an output that keeps its length.
use Prim.Native.Nat.{◌-◌, ◌≤◌}
use mathlib.Core.Path.{◌≡◌}
use lib.ListN.{length}
use Rattle.json_probe.proofs.answer_some.Given as goal

abbrev pub invariant-loop-used : goal.invariant-loop-used
invariant-loop-used g l = (l.used ≤ length l.out) × (length l.a ≡ length l.initial.a) × (length l.b ≡ length l.initial.b) × (length l.out ≡ length l.initial.out)

abbrev pub decreases-loop-used : goal.decreases-loop-used
decreases-loop-used g l = length l.out - l.used
