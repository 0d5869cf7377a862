-- How a call with a board of N marks ends: what the call over lists answers, with its marks as a board.
use Rattle.std.specs.Prelude.{ℕ}
use Rattle.boards.specs.Board.{board_of}
use Rattle.gate_calls.specs.Calls.{Answer}
use Rattle.gate_boards.specs.declared.Verdict.{Verdict as Ended}

unfoldable pub verdict_of : {N : ℕ} → Answer → Ended N
verdict_of x = record { refusal = x.refusal; length = x.length; board = board_of x.marks }
