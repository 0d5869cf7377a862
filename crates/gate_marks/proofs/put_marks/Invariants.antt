-- `gate_marks::put_marks` meets its contract. The loop's invariant: the first m marks are the new ones and the rest as they
-- were.
-- Assumes nothing.
use Prim.Native.Nat.{◌-◌, ◌≤◌}
use borrow.Author.Rules.{rules}
use Rattle.mark_numbers.specs.Marks.{marks_in}
use Rattle.mark_numbers.proofs.Laws.{Putting}
use Rattle.rule_shape.specs.Rule.{rule_from}
use Rattle.standing.specs.Standing.{standing}
use Rattle.found_marks.specs.Found.{count_in, table_in, found_mark}
use Rattle.gate_marks.specs.Code.{put_mark}
use Rattle.gate_marks.proofs.put_marks.Given as goal

abbrev pub invariant-loop-m : goal.invariant-loop-m
invariant-loop-m l = Putting (put_mark l.n (rule_from l.rules) l.scope (found_mark l.n (rule_from l.rules) l.values l.texts (table_in (standing l.a l.b l.c l.stand) (count_in l.forms l.fields) l.starts l.work l.records) (marks_in l.own_kinds l.own_places l.own_companions)) (marks_in l.initial.kinds l.initial.places l.initial.companions)) (marks_in l.initial.kinds l.initial.places l.initial.companions) l.m (marks_in l.kinds l.places l.companions)
