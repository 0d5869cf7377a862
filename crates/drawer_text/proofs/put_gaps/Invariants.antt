-- `drawer_text::put_gaps` meets its contract.
-- Assumes nothing.
use Prim.Native.Nat.{◌-◌}
use mathlib.Core.Path.{◌≡◌}
use lib.ListN.{length}
use Rattle.output.specs.Output.{output_at, put}
use Rattle.drawer_text.specs.List.{gap_lines}
use Rattle.drawer_text.proofs.Gaps.{Scan}
use Rattle.drawer_text.proofs.put_gaps.Given as goal

abbrev pub invariant-loop-p : goal.invariant-loop-p
invariant-loop-p l = (put (output_at l.out l.end) (gap_lines 20 l.offs l.lens (l.room - l.p) l.p) ≡ put (output_at l.initial.out l.at) (gap_lines 20 l.offs l.lens (l.room - 164) 164)) × (length l.out ≡ length l.initial.out) × Scan 20 l.offs l.lens l.room l.p

abbrev pub decreases-loop-p : goal.decreases-loop-p
decreases-loop-p l = l.room - l.p
