-- `table_record::fill_required` meets its contract: at the loop's head the numbers of the fields passed are put down.
use lib.ListN.{length}
use Rattle.table_record.proofs.Required.{Filling}
use Rattle.table_record.proofs.fill_required.Given as goal

abbrev pub invariant-loop-k : goal.invariant-loop-k
invariant-loop-k l = Filling l.rows l.count (length l.initial.required) l.initial.required l.required l.n l.k
