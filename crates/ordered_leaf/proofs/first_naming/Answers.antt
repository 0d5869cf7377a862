-- `ordered_leaf::first_naming` meets its contract: the lists are fit, so that the lookup tells which texts are named.
use Rattle.ordered_leaf.proofs.Laws.{filled-names}
use Rattle.ordered_leaf.proofs.first_naming.Goals as goal

pub returns : goal.returns
returns c = filled-names _ _ _ _ _ _ _ _ _ _ _ _ _ _ c.requires c.key_of.ensures c.key_order.ensures.1 c.key_order.ensures.2 c.first_found.ensures
