-- Document 01, "The judging program": what it prints, as bytes, of marks however many. Every line ends in a line feed.
use Rattle.std.specs.Prelude.{ℕ, ◌+◌, ◌*◌, Bool, cond, ◌&&◌, List, [], ◌++◌, length, leb, eqb}
use Rattle.json_bytes.specs.Ascii.{codes}
use Rattle.bundle_bytes.specs.Pieces.{joined}
use Rattle.output.specs.Decimal.{decimal}
use Rattle.mark_numbers.specs.Marks.{Marks, mark_in, have_length, faults_in}
use Rattle.mark_numbers.specs.declared.Mark.{Mark}

-- ---- Lines
-- a word and a number
unfoldable pub counted : List ℕ → ℕ → List ℕ
counted word x = word ++ decimal x ++ codes "\n"

-- "its number, kind and place, single spaces between", and by document 02, order 5, its companion behind them
unfoldable pub line_numbers : ℕ → Mark → List ℕ
line_numbers m mark =
    decimal m ++ codes " " ++ decimal mark.kind ++ codes " " ++ decimal mark.place ++ codes " " ++ decimal mark.companion

-- "for each mark of kind other than 0 a line"
unfoldable pub line_of : ℕ → Mark → List ℕ
line_of m mark = cond (eqb mark.kind 0) [] (line_numbers m mark ++ codes "\n")

unfoldable pub line_in : Marks → ℕ → List ℕ
line_in marks m = line_of m (mark_in marks m)

-- the lines of the marks below m
unfoldable pub lines_up_to : Marks → ℕ → List ℕ
lines_up_to marks m = joined (line_in marks) m

-- "The set is accepted if all .. hold."
unfoldable pub is_accepted : List ℕ → Bool
is_accepted kinds = eqb (faults_in kinds) 0

-- "then `accepted`, or `refused` and the count of those lines"
unfoldable pub last_line : List ℕ → List ℕ
last_line kinds = cond (is_accepted kinds) (codes "accepted\n") (counted (codes "refused ") (faults_in kinds))

-- ---- The whole text
unfoldable pub board_text : Marks → List ℕ
board_text marks =
    counted (codes "marks ") (length marks.kinds) ++ lines_up_to marks (length marks.kinds) ++ last_line marks.kinds

-- "A refused bundle prints only `bundle` and the number"
unfoldable pub refusal_text : ℕ → List ℕ
refusal_text refusal = counted (codes "bundle ") refusal

unfoldable pub report_of : ℕ → Marks → List ℕ
report_of refusal marks = cond (eqb refusal 0) (board_text marks) (refusal_text refusal)

-- ---- What is written
-- the room that is asked for n marks, at most 999, and that each of their texts fits
abbrev pub text_room : ℕ → ℕ
text_room n = 64 * n + 960

unfoldable pub is_printed : Marks → ℕ → Bool
is_printed marks room =
    have_length (length marks.kinds) marks &&
    leb (length marks.kinds) 999 &&
    leb (text_room (length marks.kinds)) room

-- the text that goes to an output with so much room; none where it has too little, or the lists don't agree
unfoldable pub text_in : ℕ → Marks → ℕ → List ℕ
text_in refusal marks room = cond (is_printed marks room) (report_of refusal marks) []
