-- `cost_element::first_named` meets its contract: what is left of the search at the loop's head answers as the whole does.
-- Assumes nothing.
use Prim.Native.Nat.{ℕ, ◌-◌}
use mathlib.Core.Path.{◌≡◌}
use Rattle.rule_cells.specs.Cells.{is_word, first_from, first_that}
use Rattle.cost_element.specs.Element.{element_id}
use Rattle.rule_cells.specs.Seen.{cells_seen}
use Rattle.cost_element.proofs.first_named.Given as goal

abbrev pub invariant-loop-q : goal.invariant-loop-q
invariant-loop-q l = first_that (λ (x : ℕ). is_word (cells_seen l.table) x element_id l.name) l.table.records ≡ first_from (λ (x : ℕ). is_word (cells_seen l.table) x element_id l.name) (l.table.records - l.q) l.q
