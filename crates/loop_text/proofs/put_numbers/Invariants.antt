-- `loop_text::put_numbers` meets its contract: after each turn i numbers are put.
-- Assumes nothing.
use mathlib.Core.Path.{◌≡◌}
use Rattle.output.specs.Output.{output_at, put}
use Rattle.bundle_bytes.specs.Pieces.{joined}
use Rattle.loop_text.specs.Text.{number_text}
use Rattle.loop_text.proofs.put_numbers.Given as goal

abbrev pub invariant-loop-i : goal.invariant-loop-i
invariant-loop-i l = (output_at l.out l.end ≡ put (output_at l.initial.out l.at) (joined (number_text l.ring) l.i))
