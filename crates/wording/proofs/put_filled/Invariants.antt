-- `wording::put_filled` meets its contract: after each turn what is left of the sentence, put behind what was, is the whole.
use mathlib.Core.Path.{◌≡◌}
use lib.ListN.{length, drop}
use Rattle.output.specs.Output.{output_at, put}
use Rattle.wording.specs.Wording.{filled}
use Rattle.wording.proofs.put_filled.Given as goal

abbrev pub invariant-loop-sign : goal.invariant-loop-sign
invariant-loop-sign l = (put (output_at l.out l.end) (filled l.which l.slots l.value (drop l.sign-index l.sentence)) ≡ put (output_at l.initial.out l.at) (filled l.which l.slots l.value l.sentence)) × (length l.out ≡ length l.initial.out)
