-- `reason_text::put_lines` meets its contract: after each turn the lines of the marks below m are put.
use Prim.Native.Nat.{◌-◌, ◌≤◌}
use mathlib.Core.Path.{◌≡◌}
use lib.ListN.{length}
use Rattle.output.specs.Output.{output_at, put}
use Rattle.mark_numbers.specs.Marks.{marks_in}
use Rattle.reason_text.specs.Text.{reason_lines}
use Rattle.reason_text.proofs.put_lines.Given as goal

abbrev pub invariant-loop-m : goal.invariant-loop-m
invariant-loop-m l = (output_at l.out l.end ≡ put (output_at l.initial.out l.at) (reason_lines l.which l.grouped l.bundle (marks_in l.kinds l.places l.companions) l.m)) × (length l.out ≡ length l.initial.out) × (length l.work ≡ length l.initial.work) × (l.m ≤ length l.kinds)

abbrev pub decreases-loop-m : goal.decreases-loop-m
decreases-loop-m l = length l.kinds - l.m
