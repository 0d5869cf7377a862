-- `reason_text::find_keepers` meets its contract: after each turn the keepers of the marks below m stand in the list.
use Prim.Native.Nat.{ℕ, ◌-◌, ◌≤◌, ◌<◌}
use mathlib.Core.Path.{◌≡◌}
use lib.ListN.{length, get_or}
use Rattle.mark_numbers.specs.Marks.{marks_in}
use Rattle.gate_lists.specs.Which.{gate_called}
use Rattle.reason_text.specs.Text.{keeper_at}
use Rattle.reason_text.proofs.find_keepers.Given as goal

abbrev pub invariant-loop-m : goal.invariant-loop-m
invariant-loop-m l = ((j : ℕ) → j < l.m → get_or l.keepers j 0 ≡ keeper_at (gate_called l.which) l.bundle (marks_in l.kinds l.places l.companions) j) × (length l.work ≡ length l.initial.work) × (length l.keepers ≡ length l.initial.keepers) × (l.m ≤ length l.initial.keepers)

abbrev pub decreases-loop-m : goal.decreases-loop-m
decreases-loop-m l = length l.initial.keepers - l.m
