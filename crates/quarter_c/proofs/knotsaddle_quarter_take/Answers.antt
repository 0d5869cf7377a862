-- `quarter_c::knotsaddle_quarter_take` meets its contract: what came back is put down part by part.
-- Assumes nothing.
use mathlib.Core.Path.{ap}
use Rattle.quarter.specs.declared.Taken.{Taken}
use Rattle.quarter_c.specs.Handed.{handed}
use Rattle.quarter_c.proofs.knotsaddle_quarter_take.Goals as goal

pub returns : goal.returns
unfolding handed
returns c = record { value = ap (λ (t : Taken). t.refusal) c.take_in-taken.ensures.value; quarter_after = ap (λ (t : Taken). t.quarter) c.take_in-taken.ensures.value; grand_after = ap (λ (t : Taken). t.grand) c.take_in-taken.ensures.value; work_after = c.take_in-taken.ensures.work_after }
