-- The third demand, for two desks: after any number of calls each desk's board is that of a full judgement of its joined set,
-- where a desk that was refused while the calendars were written has started again. Quotations are of document 02, order 10.
-- Assumes nothing.
use Prim.Native.Nat.{ℕ}
use mathlib.Core.Path.{◌≡◌, refl, sym, ap, ◌∙◌}
use mathlib.Core.Bool.{Bool, true, false, cond, not, ◌&&◌, or-true, true≢false}
use mathlib.Core.List.{List, [], ◌∷◌}
use borrow.Author.Tests.{eq-eqb, eqb-true, eqb-false}
use lib.Dec.{eqb}
use Rattle.parts.specs.Files.{File}
use Rattle.mark_numbers.specs.Marks.{Marks}
use Rattle.bundle_layout.specs.Bundle.{bundle_of}
use Rattle.bundle_layout.specs.Change.{files_after}
use Rattle.gate_marks.specs.Gate.{Gate}
use Rattle.desks_calls.specs.declared.Whose.{Whose}
use Rattle.desks_calls.specs.declared.Whose.TheVariants.{DeskA, DeskB, Calendars}
use Rattle.desks_calls.specs.Join.{judged_join}
use Rattle.desks_calls.specs.Desks.{Sight, NoChange, OwnChange, CalendarChange, sight_of, seen_by_a, seen_by_b, desk_fault, answered_by, desk_answer, is_written, DesksAnswer, both_answered, desks_answer}
use Rattle.desks_calls.specs.Run.{Call, DesksState, answer_to, bundle_now, marks_now, desks_next, desks_stepped, after_calls}
use Rattle.desks_calls.proofs.Demands.{refused, not_seen, own-right, calendar-right}

-- marks that are those of a full judgement
abbrev pub RightDesk : Gate → List ℕ → List ℕ → Marks → Type 0
RightDesk g desk shared marks = marks ≡ (judged_join g desk shared).marks

pub record Right (g : Gate) (x : DesksState) : Type 0 where
  pub right-a : RightDesk g x.a x.shared x.marks_a
  pub right-b : RightDesk g x.b x.shared x.marks_b

module _ (g : Gate) where
  refusal_is : (desk shared : List ℕ) (sight : Sight) (marks : Marks) → (desk_answer g desk shared sight marks).refusal ≡ desk_fault g.files desk shared sight
  unfolding desk_answer answered_by
  refusal_is desk shared sight marks = refl

  -- ---- one call, for one desk
  module _ (desk shared : List ℕ) (marks : Marks) (right : RightDesk g desk shared marks) where
    not-touched : RightDesk g desk shared (desk_answer g desk shared NoChange marks).marks
    not-touched = not_seen g desk shared NoChange marks refl ∙ right

    module _ (k : ℕ) (f : File) (room : ℕ) where
      own-step : RightDesk g (bundle_now g.files (eqb (desk_answer g desk shared (OwnChange k f room) marks).refusal 0) desk k f) shared (desk_answer g desk shared (OwnChange k f room) marks).marks
      unfolding bundle_now
      own-step = rw (refusal_is desk shared (OwnChange k f room) marks) (go (eqb (desk_fault g.files desk shared (OwnChange k f room)) 0) refl)
        where
          go : (t : Bool) → eqb (desk_fault g.files desk shared (OwnChange k f room)) 0 ≡ t → RightDesk g (cond t (bundle_of g.files (files_after desk k f)) desk) shared (desk_answer g desk shared (OwnChange k f room) marks).marks
          go true e = rw right (ap (λ x. x.marks) (own-right g desk shared k f room (eqb-true _ 0 e)))
          go false e = ap (λ x. x.marks) (refused g desk shared (OwnChange k f room) marks (eqb-false _ 0 e)) ∙ right

      calendar-step : (is_new : Bool) → ((desk_answer g desk shared (CalendarChange k f room) marks).refusal ≡ 0 → is_new ≡ true)
          → RightDesk g desk (bundle_now g.files is_new shared k f) (marks_now g is_new desk (bundle_now g.files is_new shared k f) (desk_answer g desk shared (CalendarChange k f room) marks))
      unfolding bundle_now marks_now
      calendar-step is_new new = rw (refusal_is desk shared (CalendarChange k f room) marks) (go is_new (λ e. new (refusal_is desk shared (CalendarChange k f room) marks ∙ e)) (eqb (desk_fault g.files desk shared (CalendarChange k f room)) 0) refl)
        where
          go : (is_new : Bool) → (desk_fault g.files desk shared (CalendarChange k f room) ≡ 0 → is_new ≡ true) → (t : Bool) → eqb (desk_fault g.files desk shared (CalendarChange k f room)) 0 ≡ t
              → cond (is_new && not t) (judged_join g desk (cond is_new (bundle_of g.files (files_after shared k f)) shared)).marks (desk_answer g desk shared (CalendarChange k f room) marks).marks ≡ (judged_join g desk (cond is_new (bundle_of g.files (files_after shared k f)) shared)).marks
          go true new true e = rw right (ap (λ x. x.marks) (calendar-right g desk shared k f room (eqb-true _ 0 e)))
          go false new true e = absurd (true≢false (sym (new (eqb-true _ 0 e))))
          go true new false e = refl
          go false new false e = ap (λ x. x.marks) (refused g desk shared (CalendarChange k f room) marks (eqb-false _ 0 e)) ∙ right

  -- ---- one call
  step_by : (whose : Whose) (k : ℕ) (f : File) (room : ℕ) (x : DesksState) → Right g x
      → (answer : DesksAnswer) → answer ≡ desks_answer g x.a x.b x.shared x.marks_a x.marks_b whose k f room
      → Right g (desks_next g whose (is_written whose answer.a.refusal answer.b.refusal) k f x answer)
  unfolding desks_next is_written desks_answer both_answered sight_of seen_by_a seen_by_b
  step_by DeskA k f room x r answer is =
      rw is
      (record {
        right-a = own-step x.a x.shared x.marks_a r.right-a k f room;
        right-b = not-touched x.b x.shared x.marks_b r.right-b;
      })
  step_by DeskB k f room x r answer is =
      rw is
      (record {
        right-a = not-touched x.a x.shared x.marks_a r.right-a;
        right-b = own-step x.b x.shared x.marks_b r.right-b k f room;
      })
  step_by Calendars k f room x r answer is =
      rw is
      (record {
        right-a = calendar-step x.a x.shared x.marks_a r.right-a k f room _ (λ e. rw (eq-eqb _ 0 e));
        right-b = calendar-step x.b x.shared x.marks_b r.right-b k f room _ (λ e. rw (eq-eqb _ 0 e) (or-true (eqb (desk_answer g x.a x.shared (CalendarChange k f room) x.marks_a).refusal 0)));
      })

  pub step_right : (x : DesksState) (c : Call) → Right g x → Right g (desks_stepped g x c)
  unfolding desks_stepped answer_to
  step_right x c r = step_by c.whose c.file c.new c.room x r _ refl

  -- ---- any number of calls
  pub stays-right : (cs : List Call) (x : DesksState) → Right g x → Right g (after_calls g cs x)
  unfolding after_calls
  stays-right [] x r = r
  stays-right (c ∷ cs) x r = stays-right cs (desks_stepped g x c) (step_right x c r)

  -- from desks that were judged in full on, refused or not
  pub always-right : (a b shared : List ℕ) (cs : List Call)
      → Right g (after_calls g cs (record { a = a; b = b; shared = shared; marks_a = (judged_join g a shared).marks; marks_b = (judged_join g b shared).marks }))
  always-right a b shared cs = stays-right cs _ (record { right-a = refl; right-b = refl })
