-- `cost_element::element_of` meets its contract: what is left of the search at the loop's head answers as the whole does.
-- Assumes nothing.
use Prim.Native.Nat.{◌-◌}
use mathlib.Core.Path.{refl, sym, ◌∙◌}
use Rattle.rule_cells.specs.Cells.{first_that}
use Rattle.rule_cells.proofs.Laws.{search-hits, search-goes-on, search-ends}
use Rattle.cost_element.specs.Found.{element_found}
use Rattle.cost_element.proofs.element_of.Goals as goal

pub loop-e-init : goal.loop-e-init
unfolding element_found first_that
loop-e-init c = refl

pub returns-then-is_of : goal.returns-then-is_of
returns-then-is_of c = sym (c.loop-e.invariant ∙ search-hits _ _ _ c.loop-e-test.true (sym c.is_of.ensures ∙ c.if-is_of.true))

pub loop-e-preserved : goal.loop-e-preserved
loop-e-preserved c = c.loop-e.invariant ∙ search-goes-on _ _ _ c.loop-e-test.true (sym c.is_of.ensures ∙ c.if-is_of.false)

pub returns : goal.returns
returns c = sym (c.loop-e.invariant ∙ search-ends _ _ _ c.loop-e-test.false)
