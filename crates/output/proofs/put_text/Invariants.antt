-- `output::put_text` meets its contract: after each turn what is left of the text, put behind what was, is the whole.
use mathlib.Core.Path.{◌≡◌}
use lib.ListN.{length, drop}
use Rattle.output.specs.Output.{output_at, put}
use Rattle.output.proofs.put_text.Given as goal

abbrev pub invariant-loop-b : goal.invariant-loop-b
invariant-loop-b l = (put (output_at l.out l.end) (drop l.b-index l.text) ≡ put (output_at l.initial.out l.at) l.text) × (length l.out ≡ length l.initial.out)
