-- `quarter_sets::take_all` is safe and ends: each turn takes one set, and the lists keep their lengths.
use Prim.Native.Nat.{◌-◌}
use mathlib.Core.Path.{◌≡◌}
use lib.ListN.{length}
use Rattle.quarter_sets.proofs.take_all.Given as goal

abbrev pub invariant-loop-place : goal.invariant-loop-place
invariant-loop-place g l = (length l.file ≡ length l.initial.file) × (length l.bundle ≡ length l.initial.bundle) × (length l.other ≡ length l.initial.other) × (length l.work ≡ length l.initial.work) × (length l.causes ≡ length l.initial.causes)

abbrev pub decreases-loop-place : goal.decreases-loop-place
decreases-loop-place g l = l.sets - l.place
