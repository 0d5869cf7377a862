-- `gate::shown_part` meets its contract, in the bundle and past its end.
-- Assumes nothing.
use Rattle.gate_calls.specs.Reasons.{shown_part}
use Rattle.gate.proofs.Laws.{shown-too-long, shown-past}
use Rattle.gate.proofs.shown_part.Goals as goal

pub returns-then-bundle-length : goal.returns-then-bundle-length
returns-then-bundle-length c = shown-too-long c.args.bundle.now _ c.if-bundle-length.true

pub returns-then-bundle-length-2 : goal.returns-then-bundle-length-2
returns-then-bundle-length-2 c = shown-past c.args.bundle.now _ c.if-bundle-length-2.true

pub returns : goal.returns
unfolding shown_part
returns c = c.part.ensures
