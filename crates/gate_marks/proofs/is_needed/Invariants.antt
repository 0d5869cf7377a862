-- `gate_marks::is_needed` meets its contract. The loop's invariant: the answer is what the marks from m on give.
-- Assumes nothing.
use Prim.Native.Nat.{◌-◌}
use mathlib.Core.Path.{◌≡◌}
use lib.ListN.{length}
use borrow.Author.Rules.{rules}
use Prim.Native.Nat.{◌/◌}
use Rattle.rule_shape.specs.Rule.{rule_from}
use Rattle.gate_marks.specs.Again.{needed_from, needed}
use Rattle.gate_marks.proofs.is_needed.Given as goal

abbrev pub invariant-loop-m : goal.invariant-loop-m
invariant-loop-m l = needed l.n (length l.rules / 9) (rule_from l.rules) l.scope l.file ≡ needed_from l.n (rule_from l.rules) l.scope l.file (l.marks - l.m) l.m
