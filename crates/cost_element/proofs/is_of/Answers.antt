-- `cost_element::is_of` meets its contract: without a resource of the element there is none, and else it is looked up.
-- Assumes nothing.
use mathlib.Core.Path.{refl}
use Rattle.cost_element.proofs.Laws.{none_found, looked-up}
use Rattle.cost_element.proofs.is_of.Goals as goal

pub returns-then-first-eq0 : goal.returns-then-first-eq0
returns-then-first-eq0 c = none_found _ _ _ _ _ _ _ refl c.if-first-eq0.true

pub returns : goal.returns
returns c = looked-up _ _ _ _ _ _ _ refl c.if-first-eq0.false _ c.start_of.ensures _ c.is_found.ensures
