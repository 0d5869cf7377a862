-- `cost_element::fill_firsts` meets its contract: the first e places have their resources.
-- Assumes nothing.
use Rattle.mark_numbers.proofs.Laws.{Filled}
use Rattle.cost_element.specs.Found.{first_of_element}
use Rattle.rule_cells.specs.Seen.{cells_seen}
use Rattle.cost_element.proofs.fill_firsts.Given as goal

abbrev pub invariant-loop-e : goal.invariant-loop-e
invariant-loop-e l = Filled (first_of_element (cells_seen l.table) l.table.records) l.initial.firsts l.e l.firsts
