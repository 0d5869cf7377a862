-- The call of document 02, order 6, for any gate: "Given a bundle and a mark number", what is told of that mark.
use Rattle.std.specs.Prelude.{ℕ, ◌+◌, cond, List, [], length, ltb, eqb}
use Rattle.parts.specs.Part.{part_of}
use Rattle.bundle_layout.specs.Bundle.{bundle_fault, offset_at, file_at}
use Rattle.reason_answer.specs.declared.Shown.{Shown}
use Rattle.reason_answer.specs.declared.Reason.{Reason}
use Rattle.reason_answer.specs.declared.Reason.TheVariants.{Refused, Holds, NotJudged, OwnMark, Broken, Missing}
use Rattle.gate_marks.specs.declared.Scope.{Scope}
use Rattle.gate_marks.specs.Gate.{Gate, marks_of}
use Rattle.gate_marks.specs.Again.{room_is_there}
use Rattle.reason.specs.Reason.{reason_at}
use Rattle.gate_calls.specs.Lent.{work_left}

-- "a mark number over 80 is 7, tested after 1 to 3"
unfoldable pub reason_of : Gate → List ℕ → ℕ → Reason
reason_of g s m =
    cond (eqb (bundle_fault g.files s) 0) (cond (ltb m (marks_of g)) (reason_at g (offset_at s) (file_at s) m) (Refused 7))
    (Refused (bundle_fault g.files s))

-- over a workspace of so many numbers: 14 where it is too short, before all else
unfoldable pub reason_asked : Gate → List ℕ → ℕ → ℕ → Reason
reason_asked g s lent m = cond (room_is_there g lent) (reason_of g s m) (Refused 14)

-- "its value as the part of the bundle where it stands, quotes included, empty for null"; any other answer shows no value
unfoldable pub shown_part : List ℕ → Shown → List ℕ
shown_part s shown = part_of s shown.start (shown.start + shown.length)

unfoldable pub value_shown : List ℕ → Reason → List ℕ
value_shown s (Refused refusal) = []
value_shown s Holds = []
value_shown s (NotJudged file) = []
value_shown s (OwnMark kind place companion) = []
value_shown s (Broken shown) = shown_part s shown
value_shown s (Missing shown searched) = shown_part s shown

-- ---- What is left in the workspace: the cells of the files that the mark reads, and after a refusal all as it was lent
unfoldable pub refusal_of : Reason → ℕ
refusal_of (Refused refusal) = refusal
refusal_of Holds = 0
refusal_of (NotJudged file) = 0
refusal_of (OwnMark kind place companion) = 0
refusal_of (Broken shown) = 0
refusal_of (Missing shown searched) = 0

unfoldable pub reason_left : Gate → List ℕ → ℕ → Reason → List ℕ → List ℕ
reason_left g s m told work = work_left g (Scope.Mark m) (file_at s) (refusal_of told) work
