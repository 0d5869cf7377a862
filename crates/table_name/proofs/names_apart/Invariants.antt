-- `table_name::names_apart` meets its contract: each field before the loop's head has a name of its own.
use mathlib.Core.Path.{◌≡◌}
use mathlib.Core.Bool.{true}
use Rattle.table_name.specs.Guess.{own_below}
use Rattle.table_name.proofs.names_apart.Given as goal

abbrev pub invariant-loop-k : goal.invariant-loop-k
invariant-loop-k l = own_below l.rows l.names l.count l.k ≡ true
