-- `drawer_text::put_all_held` meets its contract.
-- Assumes nothing.
use mathlib.Core.Path.{◌≡◌}
use lib.ListN.{length}
use Rattle.bundle_bytes.specs.Pieces.{joined}
use Rattle.output.specs.Output.{output_at, put}
use Rattle.drawer_text.specs.List.{held_line}
use Rattle.drawer_text.proofs.put_all_held.Given as goal

abbrev pub invariant-loop-k : goal.invariant-loop-k
invariant-loop-k l = (output_at l.out l.end ≡ put (output_at l.initial.out l.at) (joined (held_line l.d) l.k)) × (length l.out ≡ length l.initial.out)
