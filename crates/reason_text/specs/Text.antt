-- What the programs of document 02, order 6, print: "A new program prints this for every mark that doesn't hold." The lines
-- are document 01's, each with a sentence behind its numbers; so they are for the marks of any other gate.
use Rattle.std.specs.Prelude.{ℕ, Bool, cond, ◌&&◌, ◌||◌, List, [], ◌++◌, length, take, drop, eqb}
use Rattle.json_bytes.specs.Ascii.{codes}
use Rattle.bundle_bytes.specs.Pieces.{joined}
use Rattle.text_place.specs.Place.{count_where}
use Rattle.mark_numbers.specs.Marks.{Marks, list_of, mark_in}
use Rattle.mark_numbers.specs.declared.Mark.{Mark}
use Rattle.reason_answer.specs.declared.Reason.{Reason}
use Rattle.reason_answer.specs.declared.Reason.TheVariants.{Refused, Holds, NotJudged, OwnMark, Broken, Missing}
use Rattle.report.specs.Report.{counted, line_numbers, last_line, refusal_text}
use Rattle.gate_marks.specs.Gate.{Gate}
use Rattle.gate_marks.specs.Again.{room_is_there}
use Rattle.gate_calls.specs.Calls.{Answer, judgement}
use Rattle.gate_calls.specs.Reasons.{reason_of}
use Rattle.gate_lists.specs.declared.Which.{Which}
use Rattle.gate_lists.specs.Which.{gate_called}
use Rattle.wording.specs.Sentences.{sentence_at, keeps_many, keeps_one}
use Rattle.wording.specs.Wording.{filled}
use Rattle.reason_text.specs.Sentence.{file_slots, sentence_of}

-- ---- A mark's line. One that holds has none; where marks are grouped, one that isn't judged has none of its own.
unfoldable pub is_silent : Bool → ℕ → Bool
is_silent grouped kind = eqb kind 0 || (grouped && eqb kind 2)

unfoldable pub line_with : Which → List ℕ → ℕ → Mark → Reason → List ℕ
line_with which s m mark told = line_numbers m mark ++ codes " " ++ sentence_of which s m told ++ codes "\n"

unfoldable pub reason_line : Which → Bool → List ℕ → ℕ → Mark → List ℕ
reason_line which grouped s m mark =
    cond (is_silent grouped mark.kind) [] (line_with which s m mark (reason_of (gate_called which) s m))

unfoldable pub reason_lines : Which → Bool → List ℕ → Marks → ℕ → List ℕ
reason_lines which grouped s marks n = joined (λ m. reason_line which grouped s m (mark_in marks m)) n

-- ---- The marks that aren't judged, by the file that keeps them from it
-- the file, or the count of files for none
unfoldable pub keeper_of : ℕ → Reason → ℕ
keeper_of none (Refused refusal) = none
keeper_of none Holds = none
keeper_of none (NotJudged file) = file
keeper_of none (OwnMark kind place companion) = none
keeper_of none (Broken shown) = none
keeper_of none (Missing shown searched) = none

unfoldable pub keeper_at : Gate → List ℕ → Marks → ℕ → ℕ
keeper_at g s marks m = cond (eqb (mark_in marks m).kind 2) (keeper_of g.files (reason_of g s m)) g.files

unfoldable pub keepers_of : Gate → List ℕ → Marks → List ℕ
keepers_of g s marks = list_of (keeper_at g s marks) (length marks.kinds)

-- the line of a file that keeps n marks; none where it keeps none
unfoldable pub kept_line : Which → ℕ → ℕ → List ℕ
kept_line which file n =
    cond (eqb n 0) [] (filled which (file_slots file n) [] (sentence_at (cond (eqb n 1) keeps_one keeps_many)) ++ codes "\n")

unfoldable pub kept_lines : Which → List ℕ → ℕ → List ℕ
kept_lines which keepers n = joined (λ file. kept_line which file (count_where (λ keeper. eqb keeper file) keepers)) n

-- ---- The whole text
unfoldable pub marks_text : Which → Bool → List ℕ → Marks → List ℕ
marks_text which grouped s marks =
    counted (codes "marks ") (length marks.kinds)
    ++ reason_lines which grouped s marks (length marks.kinds)
    ++ cond grouped (kept_lines which (keepers_of (gate_called which) s marks) (gate_called which).files) []
    ++ last_line marks.kinds

-- "A refused bundle prints only `bundle` and the number"
unfoldable pub answer_text : Which → Bool → List ℕ → Answer → List ℕ
answer_text which grouped s x =
    cond (eqb x.refusal 0) (marks_text which grouped s x.marks) (refusal_text x.refusal)

unfoldable pub reasons_text : Which → Bool → List ℕ → List ℕ
reasons_text which grouped s = answer_text which grouped s (judgement (gate_called which) s)

-- over a workspace of so many numbers: 14 where it is too short, before all else
unfoldable pub reasons_in : Which → Bool → List ℕ → ℕ → List ℕ
reasons_in which grouped s lent = cond (room_is_there (gate_called which) lent) (reasons_text which grouped s) (refusal_text 14)

-- an output with a text at its front, as far as there is room
unfoldable pub front_put : List ℕ → List ℕ → List ℕ
front_put text out = take (length out) text ++ drop (length text) out
