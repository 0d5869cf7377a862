-- `gate_listed::fill_entries`: behind i turns the first i places of the list hold their entries, and the rest and the numbers are as before.
use Rattle.std.proofs.Common.{◌≡◌, ◌+◌, ◌*◌, ◌-◌, ◌≤◌}
use Rattle.gate_listed.proofs.Filled.{filled}
use Rattle.gate_listed.proofs.fill_entries.Given as goal

abbrev pub invariant-loop-i : goal.invariant-loop-i
invariant-loop-i l = (l.i ≤ l.n) × (l.at ≡ l.from + 4 * l.i) × (l.flat ≡ l.initial.flat) × (l.list ≡ filled l.initial.flat l.from l.initial.list l.i)

abbrev pub decreases-loop-i : goal.decreases-loop-i
decreases-loop-i l = l.n - l.i
