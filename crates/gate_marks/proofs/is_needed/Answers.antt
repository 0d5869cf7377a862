-- `gate_marks::is_needed` meets its contract. The loop's invariant: the answer is what the marks from m on give.
-- Assumes nothing.
use Prim.Native.Nat.{◌-◌}
use mathlib.Core.Path.{sym, ◌∙◌}
use Rattle.gate_marks.proofs.Marks.{wanted-starts, wanted-hits, wanted-goes-on, wanted-ends}
use Rattle.gate_marks.proofs.is_needed.Goals as goal

pub loop-m-init : goal.loop-m-init
loop-m-init c = wanted-starts _ _ _ _ _ _ c.rule_count.ensures

pub returns-then-is_wanted : goal.returns-then-is_wanted
returns-then-is_wanted c = sym (c.loop-m.invariant ∙ wanted-hits _ _ _ _ _ _ c.loop-m-test.true (sym c.is_wanted.ensures ∙ c.if-is_wanted.true))

pub loop-m-preserved : goal.loop-m-preserved
loop-m-preserved c = c.loop-m.invariant ∙ wanted-goes-on _ _ _ _ _ _ c.loop-m-test.true (sym c.is_wanted.ensures ∙ c.if-is_wanted.false)

pub returns : goal.returns
returns c = sym (c.loop-m.invariant ∙ wanted-ends _ _ _ _ _ _ c.loop-m-test.false)
