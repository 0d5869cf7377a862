-- `json_number::same_magnitude` meets its contract: the larger power of ten is brought down to the smaller.
use mathlib.Core.Path.{◌∙◌}
use native.Mathlib.Omega.{arith}
use Rattle.json_number.specs.Number.{magnitude}
use Rattle.json_number.proofs.Scale.{same-lowered, test-swap}
use Rattle.json_number.proofs.same_magnitude.Goals as goal

pub returns-then-p15-q15 : goal.returns-then-p15-q15
returns-then-p15-q15 c = c.is_raised.ensures ∙
    same-lowered _ c.args.q15 _ c.args.p15 _ (omega arith) ∙
    test-swap (magnitude c.args.d c.args.q15) (magnitude c.args.c c.args.p15)

pub returns : goal.returns
returns c = c.is_raised-2.ensures ∙ same-lowered _ c.args.p15 _ c.args.q15 _ (omega arith)
