-- `ordered_outline::TypeRule::is_in_step` meets its contract: what is left of the search at the loop's head answers as the whole does.
use Prim.Native.Nat.{◌-◌}
use mathlib.Core.Path.{refl, sym, ◌∙◌}
use mathlib.Core.Bool.{true≢false}
use Rattle.rule_outline.specs.Outline.{outline_at}
use Rattle.rule_outline.proofs.Laws.{outline-goes-on, outline-ends, parent-type-rule-starts}
use Rattle.ordered_outline.proofs.TypeRule.is_in_step.Goals as goal

pub loop-r-init : goal.loop-r-init
loop-r-init c = parent-type-rule-starts _ _ _ _ _ _ _ _ _ _ _

pub returns-then-not-keeps_in_step : goal.returns-then-not-keeps_in_step
returns-then-not-keeps_in_step c = λ e. absurd (true≢false (sym e))

pub loop-r-preserved : goal.loop-r-preserved
loop-r-preserved c = c.loop-r.invariant ∙ outline-goes-on _ _ _ _ _ _ c.loop-r-test.true (sym (c.keeps_in_step.ensures c.if-not-keeps_in_step.false)) refl

pub returns : goal.returns
unfolding outline_at
returns c = λ e. c.loop-r.invariant ∙ outline-ends _ _ _ _ _ _ c.loop-r-test.false
