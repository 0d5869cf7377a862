-- `ordered_outline::first_with` meets its contract: what is left of the search at the loop's head answers as the whole does.
use Prim.Native.Nat.{ℕ, ◌-◌}
use mathlib.Core.Path.{◌≡◌}
use Rattle.rule_cells.specs.Cells.{is_word, first_from, first_that}
use Rattle.rule_cells.specs.Seen.{cells_seen}
use Rattle.ordered_outline.proofs.first_with.Given as goal

abbrev pub invariant-loop-q : goal.invariant-loop-q
invariant-loop-q l = first_that (λ (x : ℕ). is_word (cells_seen l.table) x l.field l.word) l.table.records ≡ first_from (λ (x : ℕ). is_word (cells_seen l.table) x l.field l.word) (l.table.records - l.q) l.q
