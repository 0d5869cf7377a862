-- `gate_plain::put_plain` meets its contract. The loop's invariant: the first m marks are those of the files, and the rest as they were.
use Prim.Native.Nat.{◌-◌, ◌≤◌}
use mathlib.Core.Path.{◌≡◌}
use lib.ListN.{length}
use Rattle.mark_numbers.specs.Marks.{marks_in}
use Rattle.mark_numbers.proofs.Laws.{Putting}
use Rattle.bundle_layout.specs.Bundle.{file_at}
use Rattle.gate_marks.specs.Gate.{gate_from}
use Rattle.gate_marks.specs.Marks.{mark_at}
use borrow.Author.Rules.{rules}
use Rattle.gate_plain.proofs.put_plain.Given as goal

abbrev pub invariant-loop-m : goal.invariant-loop-m
invariant-loop-m l = Putting (λ j. mark_at (gate_from l.forms l.fields l.names l.fixed l.rules l.values l.texts) j (file_at l.bundle)) (marks_in l.initial.kinds l.initial.places l.initial.companions) l.m (marks_in l.kinds l.places l.companions) × (l.m ≤ l.marks) × (length l.cells ≡ length l.initial.cells) × (length l.u_cells ≡ length l.initial.u_cells)

abbrev pub decreases-loop-m : goal.decreases-loop-m
decreases-loop-m l = l.marks - l.m
