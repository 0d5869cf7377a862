-- `table_record::clear` meets its contract: the cells at the loop's head are cleared as far as it has come.
use mathlib.Core.Path.{◌≡◌}
use Rattle.table_record.specs.Record.{cleared}
use Rattle.table_record.proofs.clear.Given as goal

abbrev pub invariant-loop-i : goal.invariant-loop-i
invariant-loop-i l = l.cells ≡ cleared l.initial.cells l.base l.i
