-- An answer with a board from the refusal that a call over lists answers and the lists that it leaves; and that memory of a call's
-- own is room enough.
-- Assumes nothing.
use Prim.Native.Nat.{ℕ, ◌≤◌}
use mathlib.Core.Path.{◌≡◌, ap, ◌∙◌}
use mathlib.Core.List.{List}
use native.Mathlib.Omega.{arith}
use borrow.Author.Tests.{le-leb}
use Rattle.parts.specs.Files.{File}
use Rattle.mark_numbers.specs.Marks.{Marks, marks_in, fresh_marks, not_judged}
use Rattle.mark_numbers.proofs.Laws.{Long, long-lists, marks-long}
use Rattle.board.specs.Board.{board_of}
use Rattle.gate_marks.specs.Again.{room_is_there, has_lists}
use Rattle.gate_calls.specs.Lent.{lent_fault}
use Rattle.schedule.specs.Schedule.{schedule}
use Rattle.schedule.proofs.Laws.{files-are, marks-are, workspace-is}
use Rattle.drawer_held.specs.Drawer.{drawer_made}
use Rattle.drawer_calls.specs.Calls.{DrawerAnswer, drawer_judged, drawer_changed}
use Rattle.drawer_calls.specs.Lent.{drawer_judged_in, drawer_changed_in, drawer_made_in}
use Rattle.drawer_calls.proofs.Lent.{lent-judge, lent-change, lent-drawer}
use Rattle.drawers.specs.declared.Drawn.{Drawn}
use Rattle.drawers.specs.Drawers.{drawn_of}

with-board : ℕ → Marks → Drawn
with-board refusal marks = record { refusal = refusal; board = board_of marks }

-- what the call over lists left besides, it left for the call with a board too
pub drawn-is : (x : DrawerAnswer) {refusal : ℕ} {kinds places companions : List ℕ} {Left : Type 0} → (refusal ≡ x.refusal) × ((marks_in kinds places companions ≡ x.marks) × Left)
    → (record { refusal = refusal; board = record { kinds = kinds; places = places; companions = companions } } ≡ drawn_of x) × Left
unfolding drawn_of with-board
drawn-is x {refusal} {kinds} {places} {companions} (e, (q, left)) =
    (ap (λ (n : ℕ). with-board n (marks_in kinds places companions)) e ∙ ap (with-board x.refusal) q, left)

-- ---- so many numbers and lists of 81 are room enough
pub own_room : {lent : ℕ} → lent ≡ 794702 → 794702 ≤ lent
own_room e = omega arith

module _ {lent : ℕ} (w : 794702 ≤ lent) where
  has_room : (handed : Marks) → Long 81 handed → lent_fault schedule lent handed ≡ 0
  unfolding lent_fault has_lists room_is_there
  has_room handed long =
      rw (marks-are, long-lists 81 handed long, workspace-is, le-leb 794702 lent (omega arith), files-are)

  pub own-judge : {r : Drawn} (d : List ℕ) → r ≡ drawn_of (drawer_judged_in schedule d lent (fresh_marks 81)) → r ≡ drawn_of (drawer_judged schedule d)
  unfolding fresh_marks
  own-judge d e = e ∙ ap drawn_of (lent-judge schedule d lent (fresh_marks 81) (has_room (fresh_marks 81) (marks-long 81 (λ m. not_judged))))

  module _ (d : List ℕ) (k : ℕ) (f : File) (handed : Marks) (long : Long 81 handed) where
    pub own-change : {r : Drawn} → r ≡ drawn_of (drawer_changed_in schedule d k f lent handed) → r ≡ drawn_of (drawer_changed schedule d k f handed)
    own-change e = e ∙ ap drawn_of (lent-change schedule d lent handed (has_room handed long) k f)

    pub own-drawer : {last : List ℕ} → last ≡ drawer_made_in schedule d k f lent handed → last ≡ drawer_made 20 d k f
    own-drawer e = e ∙ lent-drawer schedule d lent handed (has_room handed long) k f ∙ ap (λ n. drawer_made n d k f) files-are
