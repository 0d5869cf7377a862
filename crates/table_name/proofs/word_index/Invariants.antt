-- `table_name::word_index` meets its contract: what is left of the search at the loop's head answers as the whole does.
use mathlib.Core.Path.{◌≡◌}
use Prim.Native.Nat.{◌+◌, ◌-◌}
use Rattle.table_rows.specs.Rows.{fields_from}
use Rattle.table_name.specs.Name.{index_of}
use Rattle.table_name.proofs.word_index.Given as goal

abbrev pub invariant-loop-k : goal.invariant-loop-k
invariant-loop-k l = index_of l.word (fields_from l.rows l.names l.count 0) ≡ l.k + index_of l.word (fields_from l.rows l.names (l.count - l.k) l.k)
