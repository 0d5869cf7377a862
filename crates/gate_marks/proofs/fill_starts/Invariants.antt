-- `gate_marks::fill_starts` meets its contract. The loop's invariant: the starts of the files up to this one are in the
-- list, and the cells before it are within the limit.
-- Assumes nothing.
use Prim.Native.Nat.{◌-◌, ◌≤◌}
use mathlib.Core.Path.{◌≡◌}
use lib.ListN.{length}
use Rattle.gate_marks.specs.Code.{rooms_in, Starts}
use Rattle.gate_marks.proofs.fill_starts.Given as goal

abbrev pub invariant-loop-file : goal.invariant-loop-file
invariant-loop-file l = (l.start ≡ rooms_in l.forms l.fields l.file) × (l.start ≤ l.limit) × (length l.starts ≡ length l.initial.starts) × Starts (rooms_in l.forms l.fields) l.file l.starts
