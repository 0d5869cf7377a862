-- `link_classes::class_of` meets its contract: the place where it is found.
-- Assumes nothing.
use Rattle.link_classes.proofs.Columns.{place-told}
use Rattle.link_classes.proofs.class_of.Goals as goal

pub returns-then-is_found : goal.returns-then-is_found
returns-then-is_found c = place-told _ _ _ _ _ _ c.by_predecessor-l.ensures _ c.is_found.ensures c.if-is_found.true _ _ c.key_sum-sum.ensures c.place_of.ensures
