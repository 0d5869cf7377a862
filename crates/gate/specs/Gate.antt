-- Document 01's gate with a board: its calls are those of any gate, for the value `schedule`.
use Rattle.board.specs.Board.{board_of}
use Rattle.gate_calls.specs.Calls.{Answer}
use Rattle.gate_boards.specs.declared.Verdict.{Verdict}

unfoldable pub verdict_of : Answer → Verdict 81
verdict_of x = record { refusal = x.refusal; length = x.length; board = board_of x.marks }
