-- `link_classes::fill_column` meets its contract: the first r places have their classes.
-- Assumes nothing.
use Prim.Native.Nat.{ℕ}
use Rattle.mark_numbers.proofs.Laws.{Filled}
use Rattle.rule_cells.specs.Cells.{text_of}
use Rattle.link_classes.specs.Classes.{class_in}
use Rattle.rule_cells.specs.Seen.{cells_seen}
use Rattle.link_classes.proofs.fill_column.Given as goal

abbrev pub invariant-loop-r : goal.invariant-loop-r
invariant-loop-r l = Filled (λ (x : ℕ). class_in (cells_seen l.table) l.sums l.order (text_of (cells_seen l.table) x l.k)) l.initial.column l.r l.column
