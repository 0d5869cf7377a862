-- The board of the baseline profile. Document 02, order 8: "Demands 1 to 3 then read 85 marks".
use Rattle.std.specs.Prelude.{ℕ, Bool, eqb}
use Rattle.mark_numbers.specs.Marks.{Marks, marks_in, fresh_marks, faults_in}
use Rattle.boards.specs.declared.Board.{Board}

-- a board by its marks, and its marks
abbrev pub board_of : Marks → Board 85
board_of marks = record { kinds = marks.kinds; places = marks.places; companions = marks.companions }

abbrev pub marks_on : Board 85 → Marks
marks_on board = marks_in board.kinds board.places board.companions

-- 85 marks "not judged"
unfoldable pub fresh_board : Board 85
fresh_board = board_of (fresh_marks 85)

-- "acceptance needs all 85"
unfoldable pub faults_of : Board 85 → ℕ
faults_of board = faults_in board.kinds

unfoldable pub accepted_board : Board 85 → Bool
accepted_board board = eqb (faults_of board) 0
