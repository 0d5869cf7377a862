-- Both desks' boards from the numbers that a call over lists answers and the lists that it leaves; and that memory of a call's
-- own is room enough.
-- Assumes nothing.
use Prim.Native.Nat.{ℕ, ◌≤◌}
use mathlib.Core.Path.{◌≡◌, ap, ◌∙◌}
use mathlib.Core.List.{List}
use native.Mathlib.Omega.{arith}
use borrow.Author.Tests.{le-leb}
use Rattle.parts.specs.Files.{File}
use Rattle.mark_numbers.specs.Marks.{Marks, marks_in, fresh_marks, not_judged}
use Rattle.mark_numbers.proofs.Laws.{Long, long-lists, marks-long}
use Rattle.board.specs.Board.{board_of}
use Rattle.gate_marks.specs.Again.{room_is_there, has_lists}
use Rattle.gate_calls.specs.Lent.{lent_fault}
use Rattle.schedule.specs.Schedule.{schedule}
use Rattle.schedule.proofs.Laws.{files-are, marks-are, workspace-is}
use Rattle.desks_calls.specs.declared.Whose.{Whose}
use Rattle.desks_calls.specs.Join.{DeskAnswer, judged_join}
use Rattle.desks_calls.specs.Desks.{DesksAnswer, desks_answer, desks_output}
use Rattle.desks_calls.specs.Lent.{judged_join_in, desks_in, desks_output_in}
use Rattle.desks.proofs.Lent.{lent_join, lent-desks, lent-output}
use Rattle.both_desks.specs.declared.Refusals.{Refusals}
use Rattle.both_desks.specs.Refusals.{refusals_of}
use Rattle.desks.specs.declared.Desk.{Desk}
use Rattle.desks.specs.declared.Desks.{Desks}
use Rattle.desks.specs.Desks.{desk_of, desks_of}

unfoldable pub with-board : ℕ → Marks → Desk
with-board refusal marks = record { refusal = refusal; board = board_of marks }

unfoldable pub with-boards : Refusals → Marks → Marks → Desks
with-boards answer marks_a marks_b =
    record { a = with-board answer.a marks_a; b = with-board answer.b marks_b; size = answer.size }

-- what the call over lists left besides, it left for the call with boards too
pub desk-is : (x : DeskAnswer) {refusal : ℕ} {kinds places companions : List ℕ} {Left : Type 0} → (refusal ≡ x.refusal) × ((marks_in kinds places companions ≡ x.marks) × Left)
    → (record { refusal = refusal; board = record { kinds = kinds; places = places; companions = companions } } ≡ desk_of x) × Left
unfolding desk_of with-board
desk-is x {refusal} {kinds} {places} {companions} (e, (q, left)) =
    (ap (λ (n : ℕ). with-board n (marks_in kinds places companions)) e ∙ ap (with-board x.refusal) q, left)

pub desks-are : (x : DesksAnswer) {answer : Refusals} {kinds_a places_a companions_a kinds_b places_b companions_b : List ℕ} {Left : Type 0}
    → (answer ≡ refusals_of x) × ((marks_in kinds_a places_a companions_a ≡ x.a.marks) × ((marks_in kinds_b places_b companions_b ≡ x.b.marks) × Left))
    → (with-boards answer (marks_in kinds_a places_a companions_a) (marks_in kinds_b places_b companions_b) ≡ desks_of x) × Left
unfolding desks_of desk_of refusals_of with-boards with-board
desks-are x {answer} {kinds_a} {places_a} {companions_a} {kinds_b} {places_b} {companions_b} (e, (p, (q, left))) = (
  ap (λ (n : Refusals). with-boards n (marks_in kinds_a places_a companions_a) (marks_in kinds_b places_b companions_b)) e
      ∙ ap (λ (m : Marks). with-boards (refusals_of x) m (marks_in kinds_b places_b companions_b)) p
      ∙ ap (λ (m : Marks). with-boards (refusals_of x) x.a.marks m) q,
  left,
)

-- ---- so many numbers and lists of 81 are room enough
pub own_room : {lent : ℕ} → lent ≡ 794702 → 794702 ≤ lent
own_room e = omega arith

module _ {lent : ℕ} (w : 794702 ≤ lent) where
  has_room : (handed : Marks) → Long 81 handed → lent_fault schedule lent handed ≡ 0
  unfolding lent_fault has_lists room_is_there
  has_room handed long =
      rw (marks-are, long-lists 81 handed long, workspace-is, le-leb 794702 lent (omega arith), files-are)

  pub own-judge : {r : Desk} (desk shared : List ℕ) → r ≡ desk_of (judged_join_in schedule desk shared lent (fresh_marks 81)) → r ≡ desk_of (judged_join schedule desk shared)
  unfolding fresh_marks
  own-judge desk shared e =
      e ∙ ap desk_of (lent_join schedule desk shared lent (fresh_marks 81) (has_room (fresh_marks 81) (marks-long 81 (λ m. not_judged))))

  module _ (a b shared : List ℕ) (handed_a handed_b : Marks) (long_a : Long 81 handed_a) (long_b : Long 81 handed_b) (whose : Whose) (k : ℕ) (f : File) where
    pub own-desks : {r : Desks} (room : ℕ) → r ≡ desks_of (desks_in schedule a b shared lent handed_a handed_b whose k f room) → r ≡ desks_of (desks_answer schedule a b shared handed_a handed_b whose k f room)
    own-desks room e =
        e ∙ ap desks_of (lent-desks schedule a b shared lent handed_a handed_b (has_room handed_a long_a) (has_room handed_b long_b) whose k f room)

    pub own-output : {last : List ℕ} (out : List ℕ) → last ≡ desks_output_in schedule a b shared lent handed_a handed_b whose k f out → last ≡ desks_output schedule a b shared handed_a handed_b whose k f out
    own-output out e =
        e ∙ lent-output schedule a b shared lent handed_a handed_b (has_room handed_a long_a) (has_room handed_b long_b) whose k f out
