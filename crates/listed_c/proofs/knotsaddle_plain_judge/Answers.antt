-- `listed_c::knotsaddle_plain_judge` meets its contract: the board is put down list by list.
use mathlib.Core.Path.{ap}
use Rattle.mark_numbers.specs.Marks.{marks_in}
use Rattle.gate_boards.specs.declared.Verdict.{Verdict}
use Rattle.gate.specs.Gate.{verdict_of}
use Rattle.listed_c.proofs.knotsaddle_plain_judge.Goals as goal

pub returns : goal.returns
unfolding verdict_of
returns c = record { value = ap (λ (v : Verdict 81). v.refusal) c.judge_plain-verdict.ensures; board_after = ap (λ (v : Verdict 81). marks_in v.board.kinds v.board.places v.board.companions) c.judge_plain-verdict.ensures }
