-- `reason_text::put_keepers` meets its contract: after each turn the lines of the files below `file` are put.
use Prim.Native.Nat.{◌-◌, ◌≤◌}
use mathlib.Core.Path.{◌≡◌}
use lib.ListN.{length}
use Rattle.output.specs.Output.{output_at, put}
use Rattle.reason_text.specs.Text.{kept_lines}
use Rattle.reason_text.proofs.put_keepers.Given as goal

abbrev pub invariant-loop-file : goal.invariant-loop-file
invariant-loop-file l = (output_at l.out l.end ≡ put (output_at l.initial.out l.at) (kept_lines l.which l.keepers l.file)) × (length l.out ≡ length l.initial.out) × (l.file ≤ l.files)

abbrev pub decreases-loop-file : goal.decreases-loop-file
decreases-loop-file l = l.files - l.file
