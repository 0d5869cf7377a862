-- `cases::get_marks` is safe and ends: the lists keep their lengths, and each turn takes one of 96 marks.
use mathlib.Core.Path.{◌≡◌}
use lib.ListN.{length}
use Rattle.cases.proofs.get_marks.Given as goal

abbrev pub invariant-loop-m : goal.invariant-loop-m
invariant-loop-m l = (length l.kinds ≡ length l.initial.kinds) × (length l.places ≡ length l.initial.places) × (length l.companions ≡ length l.initial.companions)
