-- The board of the contract side. Document 02, order 9: "Demands 1 to 3 read this gate too, with 19 marks".
use Rattle.std.specs.Prelude.{ℕ, Bool, eqb}
use Rattle.mark_numbers.specs.Marks.{Marks, marks_in, fresh_marks, faults_in}
use Rattle.boards.specs.declared.Board.{Board}

-- a board by its marks, and its marks
abbrev pub board_of : Marks → Board 19
board_of marks = record { kinds = marks.kinds; places = marks.places; companions = marks.companions }

abbrev pub marks_on : Board 19 → Marks
marks_on board = marks_in board.kinds board.places board.companions

-- 19 marks "not judged"
unfoldable pub fresh_board : Board 19
fresh_board = board_of (fresh_marks 19)

-- "acceptance needs all 19"
unfoldable pub faults_of : Board 19 → ℕ
faults_of board = faults_in board.kinds

unfoldable pub accepted_board : Board 19 → Bool
accepted_board board = eqb (faults_of board) 0
