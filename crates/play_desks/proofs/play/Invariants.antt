-- `play_desks::play` is safe and ends: each turn is one group less, and the buffers keep their lengths.
use Prim.Native.Nat.{◌-◌, ◌≤◌}
use mathlib.Core.Path.{◌≡◌}
use lib.ListN.{length}
use Rattle.play_desks.proofs.play.Given as goal

abbrev pub invariant-loop-turn : goal.invariant-loop-turn
invariant-loop-turn g l = (length l.a ≡ length l.initial.a) × (length l.b ≡ length l.initial.b) × (length l.s ≡ length l.initial.s) × (length l.news ≡ length l.initial.news) × (l.first ≤ 2) × (l.groups ≤ 1000000)

abbrev pub decreases-loop-turn : goal.decreases-loop-turn
decreases-loop-turn g l = l.groups - l.turn
