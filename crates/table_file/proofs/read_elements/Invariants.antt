-- `table_file::read_elements` meets its contract: what is left to read at the loop's head gives what the whole gives.
use mathlib.Core.Path.{◌≡◌}
use Prim.Native.Nat.{◌-◌}
use lib.ListN.{length}
use Rattle.table_rows.specs.Rows.{fields_from}
use Rattle.table_file.proofs.Laws.{Ahead}
use Rattle.table_file.proofs.read_elements.Given as goal

abbrev pub invariant-loop-end : goal.invariant-loop-end
invariant-loop-end l = (length l.cells ≡ length l.initial.cells) × Ahead (fields_from l.rows l.names l.count 0) l.s l.single l.from l.initial.cells l.cells l.at l.r

abbrev pub decreases-loop-end : goal.decreases-loop-end
decreases-loop-end l = length l.s - l.at
