-- `json_number::digits_end` meets its contract: the digits from here end where all of them do.
use Prim.Native.Nat.{◌+◌, ◌-◌}
use mathlib.Core.Path.{◌≡◌}
use lib.ListN.{length}
use Rattle.json_number.specs.Number.{digits_at}
use Rattle.json_number.proofs.digits_end.Given as goal

abbrev pub invariant-loop-j : goal.invariant-loop-j
invariant-loop-j l = l.i + digits_at l.s l.i ≡ l.j + digits_at l.s l.j

abbrev pub decreases-loop-j : goal.decreases-loop-j
decreases-loop-j l = length l.s - l.j
