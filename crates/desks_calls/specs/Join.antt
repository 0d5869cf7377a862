-- Document 02, order 10: "Two contractors share files 6, 7 and 8, kept by the programme office in a bundle of their own. Each
-- desk lends its bundle without those three and is judged on the joined set."
use Rattle.std.specs.Prelude.{ℕ, zero, suc, Bool, true, false, cond, not, ◌&&◌, ◌||◌, List, leb, ltb, eqb}
use Rattle.parts.specs.Files.{File, is_present}
use Rattle.mark_numbers.specs.Marks.{Marks, fresh_marks}
use Rattle.bundle_layout.specs.Bundle.{bundle_fault, file_at}
use Rattle.bundle_layout.specs.Change.{make_fault}
use Rattle.gate_marks.specs.Gate.{Gate, marks_of}
use Rattle.gate_marks.specs.Marks.{full_marks}

-- "files 6, 7 and 8"
unfoldable pub is_shared : ℕ → Bool
is_shared k = leb 6 k && leb k 8

-- whether a bundle may hold file k: the shared one those three, a desk's any other
unfoldable pub may_hold : Bool → ℕ → Bool
may_hold calendars k = cond calendars (is_shared k) (not (is_shared k))

-- of the first n files only such are there; one of length 0 is there
unfoldable pub holds_only : Bool → (ℕ → File) → ℕ → Bool
holds_only calendars files zero = true
holds_only calendars files (suc k) = holds_only calendars files k && (not (is_present (files k)) || may_hold calendars k)

-- "the joined set"
unfoldable pub joined_set : List ℕ → List ℕ → ℕ → File
joined_set desk shared k = cond (is_shared k) (file_at shared k) (file_at desk k)

-- ---- Refusals, and 0 for none
-- the first of two
unfoldable pub or_else : ℕ → ℕ → ℕ
or_else first second = cond (eqb first 0) second first

-- "9, a desk's bundle holds 6, 7 or 8, or the shared one holds any other, after 1 to 3 on that desk's bundle and then on the
-- shared one"
unfoldable pub join_fault : ℕ → List ℕ → List ℕ → ℕ
join_fault n desk shared =
    or_else (bundle_fault n desk) (or_else (bundle_fault n shared) (cond (holds_only false (file_at desk) n && holds_only true (file_at shared) n) 0 9))

-- of a change of file k of a bundle: 4, 6 and 5 as document 01 has them, and "also, right after 4, a change or withdrawal of a
-- file its bundle may not hold"
unfoldable pub change_fault : ℕ → Bool → List ℕ → ℕ → File → ℕ → ℕ
change_fault n calendars s k f room = cond (ltb k n && not (may_hold calendars k)) 9 (make_fault n s k f room)

-- ---- How a call ends for one desk: with a refusal or 0, and its marks
pub record DeskAnswer : Type 0 where
  pub refusal : ℕ
  pub marks : Marks

abbrev pub desk_answered : ℕ → Marks → DeskAnswer
desk_answered refusal marks = record { refusal = refusal; marks = marks }

-- ---- A desk judged in full, which "starts again from a full judgement" needs; a refused one gives marks 'not judged'
unfoldable pub judged_by : Gate → ℕ → List ℕ → List ℕ → DeskAnswer
judged_by g refusal desk shared =
    desk_answered refusal (cond (eqb refusal 0) (full_marks g (joined_set desk shared)) (fresh_marks (marks_of g)))

unfoldable pub judged_join : Gate → List ℕ → List ℕ → DeskAnswer
judged_join g desk shared = judged_by g (join_fault g.files desk shared) desk shared
