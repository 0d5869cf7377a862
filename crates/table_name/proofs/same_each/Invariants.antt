-- `table_name::same_each` meets its contract: the bytes that are left at the loop's head decide as all do.
use mathlib.Core.Path.{◌≡◌}
use lib.ListN.{length, drop}
use Rattle.json_same.specs.Same.{same_list}
use Rattle.table_name.proofs.same_each.Given as goal

abbrev pub invariant-loop-i : goal.invariant-loop-i
invariant-loop-i l = (length l.a ≡ length l.b) × (same_list l.a l.b ≡ same_list (drop l.i l.a) (drop l.i l.b))
