-- `cost_element::fill_found` meets its contract: the first r places have their elements.
-- Assumes nothing.
use Prim.Native.Nat.{ℕ}
use Rattle.mark_numbers.proofs.Laws.{Filled}
use Rattle.rule_cells.specs.Cells.{text_of}
use Rattle.cost_element.specs.Element.{assigned_id}
use Rattle.cost_element.specs.Found.{element_found}
use Rattle.rule_cells.specs.Seen.{cells_seen}
use Rattle.cost_element.proofs.fill_found.Given as goal

abbrev pub invariant-loop-r : goal.invariant-loop-r
invariant-loop-r l = Filled (λ (x : ℕ). element_found (cells_seen l.other) l.firsts l.sums l.order (text_of (cells_seen l.table) x assigned_id)) l.initial.elements l.r l.elements
