-- `cost_element::fill_firsts` meets its contract: the first e places have their resources.
-- Assumes nothing.
use native.Mathlib.Omega.{arith}
use Rattle.mark_numbers.proofs.Laws.{fill-starts, fill-stores}
use Rattle.key_order.proofs.Lists.{filled-whole}
use Rattle.cost_element.proofs.fill_firsts.Goals as goal

pub loop-e-init : goal.loop-e-init
loop-e-init c = fill-starts _ _

pub first_of_element-requires : goal.first_of_element-requires
first_of_element-requires c = omega (arith, c.loop-e.invariant.long)

pub loop-e-preserved : goal.loop-e-preserved
loop-e-preserved c = fill-stores _ _ c.loop-e.invariant (omega (arith, c.loop-e.invariant.long)) _ c.first_of_element.ensures

pub returns : goal.returns
returns c = filled-whole _ _ _ _ c.loop-e.invariant (omega (arith, c.loop-e.invariant.long)) (omega (arith, c.loop-e.invariant.long))
