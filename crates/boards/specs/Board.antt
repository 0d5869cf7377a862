-- The board of a gate with N marks. Document 01 has "81 marks, in the order of the next two sections, each a kind and a
-- place", and by document 02, order 5, a companion.
use Rattle.std.specs.Prelude.{ℕ, Bool, eqb}
use Rattle.mark_numbers.specs.Marks.{Marks, marks_in, faults_in}
use Rattle.boards.specs.declared.Board.{Board}

-- a board by its marks, and its marks
abbrev pub board_of : {N : ℕ} → Marks → Board N
board_of marks = record { kinds = marks.kinds; places = marks.places; companions = marks.companions }

abbrev pub marks_on : {N : ℕ} → Board N → Marks
marks_on board = marks_in board.kinds board.places board.companions

-- a set is accepted if all of its marks hold
unfoldable pub faults_of : {N : ℕ} → Board N → ℕ
faults_of board = faults_in board.kinds

unfoldable pub accepted_board : {N : ℕ} → Board N → Bool
accepted_board board = eqb (faults_of board) 0
