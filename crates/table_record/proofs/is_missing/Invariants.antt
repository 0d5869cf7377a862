-- `table_record::is_missing` meets its contract: the fields that are left at the loop's head decide as all do.
use mathlib.Core.Path.{◌≡◌}
use lib.ListN.{drop}
use Rattle.table_rows.specs.Rows.{fields_from}
use Rattle.table_record.specs.Record.{is_missing}
use Rattle.table_record.proofs.Required.{is_one_empty}
use Rattle.table_record.proofs.is_missing.Given as goal

abbrev pub invariant-loop-k : goal.invariant-loop-k
invariant-loop-k l = is_missing (fields_from l.rows l.names l.count 0) l.cells l.base 0 ≡ is_one_empty l.cells l.base (drop l.k-index l.required)
