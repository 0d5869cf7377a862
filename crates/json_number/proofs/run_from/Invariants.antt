-- `json_number::run_from` meets its contract: the digits from here end where all of them do, and what is carried goes on.
use Prim.Native.Nat.{◌+◌, ◌-◌, ◌≤◌}
use mathlib.Core.Path.{◌≡◌}
use lib.ListN.{length}
use Rattle.json_number.specs.Number.{digits_at}
use Rattle.json_number.proofs.Digits.{Goes}
use Rattle.json_number.proofs.run_from.Given as goal

abbrev pub invariant-loop-i : goal.invariant-loop-i
invariant-loop-i l = (l.zeros ≤ l.i) × (l.i + digits_at l.s l.i ≡ l.at + digits_at l.s l.at) × Goes l.s l.at l.before l.nonzero l.ending l.i l.value l.kept l.zeros

abbrev pub decreases-loop-i : goal.decreases-loop-i
decreases-loop-i l = length l.s - l.i
