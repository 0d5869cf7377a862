-- `cost_element::fill_in_order` meets its contract: the lists hold the order, and in it the elements are found.
-- Assumes nothing.
use Rattle.cost_element.proofs.Laws.{found-in-order}
use Rattle.cost_element.proofs.fill_in_order.Goals as goal

pub returns : goal.returns
returns c = found-in-order _ _ _ _ _ _ _ _ _ _ _ c.requires.1 c.key_of.ensures c.key_order.ensures.1 c.key_order.ensures.2 c.fill_found.ensures
