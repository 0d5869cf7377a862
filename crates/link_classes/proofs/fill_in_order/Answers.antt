-- `link_classes::fill_in_order` meets its contract: the lists hold the order, and in it the classes are found.
-- Assumes nothing.
use Rattle.link_classes.proofs.Columns.{classes-in-order}
use Rattle.link_classes.proofs.fill_in_order.Goals as goal

pub returns : goal.returns
returns c = record { from_after = classes-in-order _ _ _ _ _ c.requires c.by_predecessor.ensures c.key_of-key.ensures c.key_order.ensures.1 c.key_order.ensures.2 _ _ c.fill_column.ensures; to_after = classes-in-order _ _ _ _ _ c.requires c.by_predecessor.ensures c.key_of-key.ensures c.key_order.ensures.1 c.key_order.ensures.2 _ _ c.fill_column-2.ensures }
