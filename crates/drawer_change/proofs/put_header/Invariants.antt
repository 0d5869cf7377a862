-- `drawer_change::put_header` meets its contract.
use Prim.Native.Nat.{◌+◌}
use mathlib.Core.Path.{◌≡◌}
use lib.ListN.{length, drop}
use Rattle.drawer_change.proofs.Header.{front}
use Prim.Native.Nat.{◌*◌}
use mathlib.Core.List.{◌++◌}
use Rattle.drawer_change.proofs.put_header.Given as goal

abbrev pub invariant-loop-i : goal.invariant-loop-i
invariant-loop-i l = (length l.d ≡ length l.initial.d) × (l.d ≡ front l.offs l.lens 20 l.i ++ drop (4 + 8 * l.i) l.initial.d)
