-- `json_text::read_text` meets its contract: what is left of the string at the loop's head, and behind the words from there on,
-- reads as the whole does.
use Rattle.std.proofs.Common.{◌-◌, length}
use Rattle.json_text.proofs.Laws.{Left}
use Rattle.json_text.proofs.read_text.Given as goal

abbrev pub invariant-loop-ty : goal.invariant-loop-ty
invariant-loop-ty l = Left l.ty l.s l.at l.wrong l.i l.edge

abbrev pub decreases-loop-ty : goal.decreases-loop-ty
decreases-loop-ty l = length l.s - l.i
