-- The drawer with a board: its calls are those over marks, for the value `schedule`.
use Rattle.board.specs.Board.{board_of}
use Rattle.drawer_calls.specs.Calls.{DrawerAnswer}
use Rattle.drawers.specs.declared.Drawn.{Drawn}

unfoldable pub drawn_of : DrawerAnswer → Drawn
drawn_of x = record { refusal = x.refusal; board = board_of x.marks }
