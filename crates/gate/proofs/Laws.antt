-- So many numbers are room enough for document 01's gate; and what a reason shows of a bundle.
-- Assumes nothing.
use Prim.Native.Nat.{ℕ, ◌+◌, ◌-◌, ◌≤◌, ◌<◌}
use mathlib.Core.Path.{◌≡◌, refl, sym}
use mathlib.Core.Bool.{true}
use mathlib.Core.List.{List, []}
use native.Mathlib.Omega.{arith}
use borrow.Author.Tests.{le-leb}
use lib.ListN.{length}
use Rattle.parts.proofs.Laws.{part-past}
use Rattle.mark_numbers.specs.Marks.{fresh_marks}
use Rattle.reason_answer.specs.declared.Shown.{Shown}
use Rattle.reason_answer.specs.declared.Reason.{Reason}
use Rattle.reason_answer.specs.declared.Reason.TheVariants.{Refused, Holds, NotJudged, OwnMark, Broken, Missing}
use Rattle.gate_marks.specs.Again.{room_is_there}
use Rattle.gate_calls.specs.Calls.{judgement}
use Rattle.gate_calls.specs.Lent.{judged_in}
use Rattle.gate_calls.specs.Reasons.{shown_part, value_shown}
use Rattle.schedule.specs.Schedule.{schedule}
use Rattle.schedule.proofs.Laws.{files-are, marks-are, workspace-is}
use Rattle.gate_boards.specs.Verdict.{verdict_of as any_verdict}
use Rattle.gate_boards.proofs.Laws as any
use Rattle.gate_boards.specs.declared.Verdict.{Verdict}
use Rattle.gate.specs.Gate.{verdict_of}

module _ {lent : ℕ} (w : 794702 ≤ lent) where
  pub room-there : room_is_there schedule lent ≡ true
  unfolding room_is_there
  room-there = rw (workspace-is, le-leb 794702 lent w, files-are)

  pub own-judge : {r : Verdict 81} (s : List ℕ) → r ≡ verdict_of (judged_in schedule s lent (fresh_marks 81)) → r ≡ verdict_of (judgement schedule s)
  unfolding verdict_of any_verdict
  own-judge s e = any.own-judge schedule room-there refl marks-are s e

-- ---- the value that is shown
module _ (s : List ℕ) (shown : Shown) where
  pub shown-too-long : length s < shown.length → [] ≡ shown_part s shown
  unfolding shown_part
  shown-too-long l = sym (part-past s shown.start (shown.start + shown.length) (omega arith) (omega arith))

  pub shown-past : length s - shown.length < shown.start → [] ≡ shown_part s shown
  unfolding shown_part
  shown-past l = sym (part-past s shown.start (shown.start + shown.length) (omega arith) (omega arith))

-- an answer of any other variant shows none
pub none-shown : (s : List ℕ) (told : Reason) → ((shown : Shown) → told ≡ Broken shown → ⊥) → ((shown : Shown) (searched : ℕ) → told ≡ Missing shown searched → ⊥) → [] ≡ value_shown s told
unfolding value_shown
none-shown s (Refused refusal) broken missing = refl
none-shown s Holds broken missing = refl
none-shown s (NotJudged file) broken missing = refl
none-shown s (OwnMark kind place companion) broken missing = refl
none-shown s (Broken shown) broken missing = absurd (broken shown refl)
none-shown s (Missing shown searched) broken missing = absurd (missing shown searched refl)
