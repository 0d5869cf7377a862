-- `table_name::fill_hints` meets its contract: the hints at the loop's head are those of the fields before it.
use mathlib.Core.Path.{◌≡◌}
use Rattle.table_name.specs.Hints.{hints_of}
use Rattle.table_name.proofs.fill_hints.Given as goal

abbrev pub invariant-loop-k : goal.invariant-loop-k
invariant-loop-k l = l.hints ≡ hints_of l.rows l.names l.k l.initial.hints
