-- `cost_element::first_of_element` meets its contract: the name that is cut out of the texts is the element's.
-- Assumes nothing.
use Rattle.cost_element.proofs.Names.{name-is}
use Rattle.cost_element.proofs.Laws.{named-as}
use Rattle.cost_element.proofs.first_of_element.Goals as goal

-- Assumes nothing.

pub returns : goal.returns
returns c = named-as _ _ _ _ c.first_named.ensures (name-is _ c.requires c.value_places-places.ensures c.value_texts-texts.ensures c.value_start.ensures c.value_end.ensures c.part-name.ensures)
