-- `listed_numbers::put_start` meets its contract: after each turn one number more is written over the others.
use Prim.Native.Nat.{◌-◌, ◌≤◌}
use mathlib.Core.Path.{◌≡◌}
use lib.ListN.{length}
use lib.Seq.{paste}
use Rattle.listed_numbers.proofs.put_start.Given as goal

abbrev pub invariant-loop-i : goal.invariant-loop-i
invariant-loop-i l = (l.i ≤ length l.numbers) × (length l.list ≡ length l.initial.list) × (l.list ≡ paste l.initial.list 0 l.numbers l.i)

abbrev pub decreases-loop-i : goal.decreases-loop-i
decreases-loop-i l = length l.numbers - l.i
