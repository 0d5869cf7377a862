-- `gate_marks::read_needed` meets its contract. The loop's invariant: the needed ones of the files before k have been read,
-- and the workspace is as that leaves it.
-- Assumes nothing.
use Prim.Native.Nat.{◌-◌, ◌/◌, ◌≤◌}
use lib.ListN.{length}
use borrow.Author.Rules.{rules}
use Rattle.mark_numbers.specs.Marks.{marks_in}
use Rattle.rule_shape.specs.Rule.{rule_from}
use Rattle.standing.specs.Standing.{standing}
use Rattle.gate_marks.specs.Gate.{expected_in}
use Rattle.gate_marks.specs.Again.{needed}
use Rattle.gate_marks.proofs.Reading.{Reading}
use Rattle.gate_marks.proofs.read_needed.Given as goal

abbrev pub invariant-loop-k : goal.invariant-loop-k
invariant-loop-k l = Reading l.cleared (expected_in l.forms l.fields l.names l.fixed) (needed l.n (length l.rules / 9) (rule_from l.rules) l.scope) (standing l.a l.b l.c l.stand) l.k l.initial.work l.work (marks_in l.kinds l.places l.companions) l.records
