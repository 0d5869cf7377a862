-- `cost_element::element_of` meets its contract: what is left of the search at the loop's head answers as the whole does.
-- Assumes nothing.
use Prim.Native.Nat.{◌-◌}
use mathlib.Core.Path.{◌≡◌}
use Rattle.json_chars.specs.Chars.{chars_at}
use Rattle.rule_cells.specs.Cells.{first_from}
use Rattle.cost_element.specs.Found.{is_of_found, element_found}
use Rattle.rule_cells.specs.Seen.{cells_seen}
use Rattle.cost_element.proofs.element_of.Given as goal

abbrev pub invariant-loop-e : goal.invariant-loop-e
invariant-loop-e l = element_found (cells_seen l.table) l.firsts l.sums l.order (chars_at l.s l.at) ≡ first_from (is_of_found (cells_seen l.table) l.firsts l.sums l.order (chars_at l.s l.at)) (4 - l.e) l.e
