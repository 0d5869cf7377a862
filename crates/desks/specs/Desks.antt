-- The desks with boards: the calls are those over marks, for the value `schedule`.
use Rattle.board.specs.Board.{board_of}
use Rattle.desks_calls.specs.Join.{DeskAnswer}
use Rattle.desks_calls.specs.Desks.{DesksAnswer}
use Rattle.desks.specs.declared.Desk.{Desk}
use Rattle.desks.specs.declared.Desks.{Desks}

unfoldable pub desk_of : DeskAnswer → Desk
desk_of x = record { refusal = x.refusal; board = board_of x.marks }

unfoldable pub desks_of : DesksAnswer → Desks
desks_of x = record { a = desk_of x.a; b = desk_of x.b; size = x.size }
