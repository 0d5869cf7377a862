-- A verdict from the numbers that a call over lists answers and the lists that it leaves; and that memory of a call's own is
-- room enough.
-- Assumes nothing.
use Prim.Native.Nat.{ℕ}
use mathlib.Core.Path.{◌≡◌, ap, ◌∙◌}
use mathlib.Core.Bool.{true}
use mathlib.Core.List.{List}
use Rattle.parts.specs.Files.{File}
use Rattle.mark_numbers.specs.Marks.{Marks, marks_in, fresh_marks, not_judged}
use Rattle.mark_numbers.proofs.Laws.{Long, long-lists, marks-long}
use Rattle.boards.specs.Board.{board_of}
use Rattle.bundle.specs.declared.Made.{Made}
use Rattle.bundle_layout.specs.Change.{output}
use Rattle.reason_answer.specs.declared.Reason.{Reason}
use Rattle.gate_marks.specs.Gate.{Gate, marks_of}
use Rattle.gate_marks.specs.Again.{room_is_there, has_lists}
use Rattle.gate_calls.specs.Calls.{Answer, judgement, tried, change_made}
use Rattle.gate_calls.specs.Lent.{lent_fault, judged_in, tried_in, made_in, output_in}
use Rattle.gate_calls.specs.Reasons.{reason_of, reason_asked}
use Rattle.gate_calls.proofs.Lent.{lent-judge, lent-try, lent-make, lent-output}
use Rattle.gate_lists.specs.Which.{made_of}
use Rattle.gate_boards.specs.Verdict.{verdict_of}
use Rattle.gate_boards.specs.declared.Verdict.{Verdict as Ended}

module _ {N : ℕ} where
  with-board : Made → Marks → Ended N
  with-board made marks = record { refusal = made.refusal; length = made.length; board = board_of marks }

  -- what the call over lists left besides, it left for the call with a board too
  pub verdict-is : (x : Answer) {made : Made} {kinds places companions : List ℕ} → made ≡ made_of x → marks_in kinds places companions ≡ x.marks
      → record { refusal = made.refusal; length = made.length; board = record { kinds = kinds; places = places; companions = companions } } ≡ verdict_of {N = N} x
  unfolding verdict_of made_of with-board
  verdict-is x {made} {kinds} {places} {companions} e q =
      ap (λ (m : Made). with-board m (marks_in kinds places companions)) e ∙ ap (with-board (made_of x)) q

-- ---- a workspace that is room enough, and lists of as many marks as the gate has
module _ (g : Gate) {N W lent : ℕ} (room : room_is_there g W ≡ true) (w : lent ≡ W) where
  module _ (many : marks_of g ≡ N) where
    has_room : (handed : Marks) → Long N handed → lent_fault g lent handed ≡ 0
    unfolding lent_fault has_lists
    has_room handed long = rw (many, long-lists N handed long, w, room)

    fresh-room : lent_fault g lent (fresh_marks N) ≡ 0
    unfolding fresh_marks
    fresh-room = has_room (fresh_marks N) (marks-long N (λ m. not_judged))

    pub own-judge : {r : Ended N} (s : List ℕ) → r ≡ verdict_of (judged_in g s lent (fresh_marks N)) → r ≡ verdict_of (judgement g s)
    own-judge s e = e ∙ ap verdict_of (lent-judge g lent (fresh_marks N) fresh-room s)

    module _ (s : List ℕ) (k : ℕ) (f : File) (handed : Marks) (long : Long N handed) where
      pub own-try : {r : Ended N} → r ≡ verdict_of (tried_in g s k f lent handed) → r ≡ verdict_of (tried g s k f handed)
      own-try e = e ∙ ap verdict_of (lent-try g lent handed (has_room handed long) s k f)

      pub own-make : {r : Ended N} (most : ℕ) → r ≡ verdict_of (made_in g s k f most lent handed) → r ≡ verdict_of (change_made g s k f handed most)
      own-make most e = e ∙ ap verdict_of (lent-make g lent handed (has_room handed long) s k f most)

      pub own-output : {last : List ℕ} (out : List ℕ) → last ≡ output_in g s k f lent handed out → last ≡ output g.files s k f out
      own-output out e = e ∙ lent-output g lent handed (has_room handed long) s k f out

pub own-reason : (g : Gate) {W lent : ℕ} → room_is_there g W ≡ true → lent ≡ W → {r : Reason} (s : List ℕ) (m : ℕ) → r ≡ reason_asked g s lent m → r ≡ reason_of g s m
unfolding reason_asked
own-reason g room w s m e = e ∙ rw (w, room)
