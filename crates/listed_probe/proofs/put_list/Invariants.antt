-- `listed_probe::put_list` is safe and ends: each turn writes one number.
use Prim.Native.Nat.{◌-◌, ◌≤◌}
use mathlib.Core.Path.{◌≡◌}
use lib.ListN.{length}
use Rattle.listed_probe.proofs.put_list.Given as goal

abbrev pub invariant-loop-j : goal.invariant-loop-j
invariant-loop-j l = (l.j ≤ length l.list) × (length l.bytes ≡ length l.initial.bytes)

abbrev pub decreases-loop-j : goal.decreases-loop-j
decreases-loop-j l = length l.list - l.j
