-- `ordered_outline::TypeRule::first_breaking` meets its contract: what is left of the search at the loop's head answers as the whole does.
use Prim.Native.Nat.{◌-◌}
use mathlib.Core.Path.{sym, ◌∙◌}
use native.Mathlib.Nat.{sub-zero}
use Rattle.rule_cells.specs.Cells.{first_that}
use Rattle.rule_outline.proofs.Laws.{outline-hits, outline-goes-on, outline-ends}
use Rattle.ordered_outline.proofs.TypeRule.first_breaking.Goals as goal

pub loop-r-init : goal.loop-r-init
unfolding first_that
loop-r-init c = rw sub-zero

pub returns-then-breaks_type : goal.returns-then-breaks_type
returns-then-breaks_type c = sym (c.loop-r.invariant ∙ outline-hits _ _ _ _ _ _ c.loop-r-test.true c.breaks_type.ensures c.if-breaks_type.true c.parent_of.ensures)

pub loop-r-preserved : goal.loop-r-preserved
loop-r-preserved c = c.loop-r.invariant ∙ outline-goes-on _ _ _ _ _ _ c.loop-r-test.true c.breaks_type.ensures c.if-breaks_type.false

pub returns : goal.returns
returns c = sym (c.loop-r.invariant ∙ outline-ends _ _ _ _ _ _ c.loop-r-test.false)
