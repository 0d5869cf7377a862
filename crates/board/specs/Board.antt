-- The board of document 01: "81 marks, in the order of the next two sections, each a kind and a place", and by
-- document 02, order 5, a companion.
use Rattle.std.specs.Prelude.{ℕ, Bool, eqb}
use Rattle.mark_numbers.specs.Marks.{Marks, marks_in, fresh_marks, faults_in}
use Rattle.boards.specs.declared.Board.{Board}

-- a board by its marks, and its marks
abbrev pub board_of : Marks → Board 81
board_of marks = record { kinds = marks.kinds; places = marks.places; companions = marks.companions }

abbrev pub marks_on : Board 81 → Marks
marks_on board = marks_in board.kinds board.places board.companions

-- 81 marks "not judged"
unfoldable pub fresh_board : Board 81
fresh_board = board_of (fresh_marks 81)

-- "The set is accepted if all 81 hold."
unfoldable pub faults_of : Board 81 → ℕ
faults_of board = faults_in board.kinds

unfoldable pub accepted_board : Board 81 → Bool
accepted_board board = eqb (faults_of board) 0
