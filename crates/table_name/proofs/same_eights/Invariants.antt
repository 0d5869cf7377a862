-- `table_name::same_eights` meets its contract: the eights passed are equal, and the last eight decide it.
use Prim.Native.Nat.{◌-◌}
use Rattle.table_name.proofs.Eights.{Alike}
use Rattle.table_name.proofs.same_eights.Given as goal

abbrev pub invariant-loop-i : goal.invariant-loop-i
invariant-loop-i l = Alike l.a l.b l.i

abbrev pub decreases-loop-i : goal.decreases-loop-i
decreases-loop-i l = l.last - l.i
