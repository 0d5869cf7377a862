-- `element_sums::all_fit` meets its contract: what is left of the search at the loop's head answers as the whole does.
-- Assumes nothing.
use Prim.Native.Nat.{◌-◌}
use mathlib.Core.Path.{ap, sym, ◌∙◌}
use mathlib.Core.Bool.{not}
use Rattle.rule_cells.specs.Cells.{first_that}
use native.Mathlib.Nat.{sub-zero}
use Rattle.element_sums.specs.Sums.{record_fits, all_fit}
use Rattle.element_sums.proofs.Laws.{fit-fails, fit-ends}
use Rattle.rule_cells.proofs.Laws.{search-goes-on}
use Rattle.element_sums.proofs.all_fit.Goals as goal

-- Assumes nothing.

pub loop-r-init : goal.loop-r-init
unfolding first_that
loop-r-init c = rw sub-zero

pub returns-then-not-record_fits : goal.returns-then-not-record_fits
unfolding all_fit
returns-then-not-record_fits c = fit-fails _ _ _ c.loop-r.invariant c.loop-r-test.true (ap not (sym c.record_fits.ensures ∙ c.if-not-record_fits.true))

pub loop-r-preserved : goal.loop-r-preserved
loop-r-preserved c = c.loop-r.invariant ∙ search-goes-on _ _ _ c.loop-r-test.true (ap not (sym c.record_fits.ensures ∙ c.if-not-record_fits.false))

pub returns : goal.returns
unfolding all_fit
returns c = fit-ends _ _ _ c.loop-r.invariant c.loop-r-test.false
