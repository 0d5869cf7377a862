-- `element_sums::record_fits` meets its contract: what is left of the search at the loop's head answers as the whole does.
-- Assumes nothing.
use Prim.Native.Nat.{◌-◌}
use mathlib.Core.Path.{refl, ap, sym, ◌∙◌}
use mathlib.Core.Bool.{not}
use Rattle.rule_cells.specs.Cells.{first_that}
use Rattle.amount.specs.Amount.{is_amount_in}
use Rattle.element_sums.specs.Sums.{record_fits}
use Rattle.element_sums.proofs.Laws.{fit-fails, fit-ends}
use Rattle.rule_cells.proofs.Laws.{search-goes-on}
use Rattle.element_sums.proofs.record_fits.Goals as goal

-- Assumes nothing.

pub loop-c-init : goal.loop-c-init
unfolding first_that
loop-c-init c = refl

pub returns-then-not-is_amount_in : goal.returns-then-not-is_amount_in
unfolding record_fits
returns-then-not-is_amount_in c = fit-fails _ _ _ c.loop-c.invariant c.loop-c-test.true (ap not (sym c.is_amount_in.ensures ∙ c.if-not-is_amount_in.true))

pub loop-c-preserved : goal.loop-c-preserved
loop-c-preserved c = c.loop-c.invariant ∙ search-goes-on _ _ _ c.loop-c-test.true (ap not (sym c.is_amount_in.ensures ∙ c.if-not-is_amount_in.false))

pub returns : goal.returns
unfolding record_fits
returns c = fit-ends _ _ _ c.loop-c.invariant c.loop-c-test.false
