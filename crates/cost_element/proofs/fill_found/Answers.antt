-- `cost_element::fill_found` meets its contract: the first r places have their elements.
-- Assumes nothing.
use native.Mathlib.Omega.{arith}
use Rattle.mark_numbers.proofs.Laws.{fill-starts, fill-stores}
use Rattle.key_order.proofs.Lists.{filled-whole}
use Rattle.rule_cells.specs.Cells.{text_of}
use Rattle.cost_element.proofs.fill_found.Goals as goal

pub loop-r-init : goal.loop-r-init
loop-r-init c = fill-starts _ _

pub loop-r-preserved : goal.loop-r-preserved
unfolding text_of
loop-r-preserved c = fill-stores _ _ c.loop-r.invariant (omega (arith, c.loop-r.invariant.long)) _ (rw c.start_of-at.ensures at c.element_of.ensures)

pub returns : goal.returns
returns c = filled-whole _ _ _ _ c.loop-r.invariant (omega (arith, c.loop-r.invariant.long)) (omega (arith, c.loop-r.invariant.long))
