-- `listed_c::knotsaddle_listed_judge` meets its contract: how many entries there are is put down.
use mathlib.Core.Path.{ap}
use Rattle.gate_flat.specs.declared.Listed.{Listed}
use Rattle.gate_flat.specs.Listed.{listed_of}
use Rattle.listed_c.proofs.knotsaddle_listed_judge.Goals as goal

pub returns : goal.returns
unfolding listed_of
returns c = record { value = ap (λ (t : Listed). t.refusal) c.judge_numbers-told.ensures.value; board_after = c.judge_numbers-told.ensures.board_after; list_after = c.judge_numbers-told.ensures.list_after; entries_after = ap (λ (t : Listed). t.entries) c.judge_numbers-told.ensures.value; work_after = c.judge_numbers-told.ensures.work_after }
