-- `table_rows::run` meets its contract: the run that is left at the loop's head, with the rows passed, is the whole run.
use Prim.Native.Nat.{◌+◌}
use mathlib.Core.Path.{◌≡◌}
use lib.ListN.{drop}
use Rattle.json_bytes.specs.Reads.{leading}
use Rattle.table_rows.specs.Rows.{tables_in}
use Rattle.table_rows.specs.Run.{counts}
use Rattle.table_rows.proofs.run.Given as goal

abbrev pub invariant-loop-f : goal.invariant-loop-f
invariant-loop-f l = l.from + leading (counts l.k l.own) (drop l.from (tables_in l.rows)) ≡ l.f + leading (counts l.k l.own) (drop l.f (tables_in l.rows))
