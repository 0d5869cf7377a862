-- `table_record::read_pairs` meets its contract: what is left of the record at the loop's head answers as the whole does.
use Prim.Native.Nat.{◌-◌}
use mathlib.Core.Path.{◌≡◌}
use lib.ListN.{length}
use Rattle.table_rows.specs.Rows.{fields_from}
use Rattle.table_record.specs.Record.{pairs_from}
use Rattle.table_record.proofs.Laws.{Left}
use Rattle.table_record.proofs.read_pairs.Given as goal

abbrev pub invariant-loop-pair : goal.invariant-loop-pair
invariant-loop-pair l = (length l.cells ≡ length l.initial.cells) × Left (fields_from l.rows l.names l.count 0) l.s l.base (pairs_from (length l.s) (fields_from l.rows l.names l.count 0) l.s l.from l.initial.cells l.base) l.cells l.at

abbrev pub decreases-loop-pair : goal.decreases-loop-pair
decreases-loop-pair l = length l.s - l.at
