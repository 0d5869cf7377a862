-- `report::put_lines` meets its contract: after each turn the lines of the marks below m are put.
-- Assumes nothing.
use mathlib.Core.Path.{◌≡◌}
use Rattle.mark_numbers.specs.Marks.{marks_in}
use Rattle.report.specs.Report.{lines_up_to}
use Rattle.output.specs.Output.{output_at, put}
use Rattle.report.proofs.put_lines.Given as goal

abbrev pub invariant-loop-m : goal.invariant-loop-m
invariant-loop-m l = (output_at l.out l.end ≡ put (output_at l.initial.out l.at) (lines_up_to (marks_in l.kinds l.places l.companions) l.m))
