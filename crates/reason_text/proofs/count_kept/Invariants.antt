-- `reason_text::count_kept` meets its contract: after each turn what was found and what is left come to the whole.
use Prim.Native.Nat.{◌+◌, ◌-◌, ◌≤◌}
use mathlib.Core.Path.{◌≡◌}
use lib.ListN.{length, drop}
use Rattle.reason_text.proofs.Keepers.{counted}
use Rattle.reason_text.proofs.count_kept.Given as goal

abbrev pub invariant-loop-i : goal.invariant-loop-i
invariant-loop-i l = (l.found + counted l.keepers l.file (drop l.i l.keepers) ≡ counted l.keepers l.file l.keepers) × (l.found ≤ l.i) × (l.i ≤ length l.keepers)

abbrev pub decreases-loop-i : goal.decreases-loop-i
decreases-loop-i l = length l.keepers - l.i
