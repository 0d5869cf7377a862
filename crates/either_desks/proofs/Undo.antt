-- Document 02, order 13, for two desks and their calendars: "undoing a change at once, by the old bytes or withdrawal, where that is
-- accepted, restores the bundle and a board from full judgement".
-- Assumes nothing.
use Prim.Native.Nat.{ℕ, ◌≤◌}
use mathlib.Core.Path.{◌≡◌, refl, sym, ap, ◌∙◌}
use mathlib.Core.Bool.{Bool, true, false, cond, ◌&&◌, true≢false}
use mathlib.Core.List.{List}
use borrow.Author.Tests.{eqb-true, eq-eqb, le-ltb}
use lib.ListN.{length}
use lib.Dec.{ltb, eqb}
use Rattle.json_bytes.proofs.Laws.{by-test, both_left, both_right}
use Rattle.mark_numbers.specs.Marks.{Marks}
use Rattle.mark_numbers.proofs.Laws.{Long, marks-long}
use Rattle.bundle_bytes.proofs.Laws.{Bytes}
use Rattle.bundle_layout.specs.Bundle.{file_at}
use Rattle.gate_marks.specs.Gate.{Gate, marks_of}
use Rattle.gate_marks.specs.Marks.{mark_at, full_marks}
use Rattle.gate_calls.specs.Calls.{changed_marks}
use Rattle.desks_calls.specs.declared.Whose.{Whose}
use Rattle.desks_calls.specs.declared.Whose.TheVariants.{DeskA, DeskB, Calendars}
use Rattle.desks_calls.specs.declared.Seen.{Seen}
use Rattle.desks_calls.specs.Join.{joined_set, or_else, join_fault, desk_answered, judged_join}
use Rattle.desks_calls.specs.Desks.{seen_by_a, seen_by_b, answered_by, desk_answer, bundle_changed, is_written, both_answered, desks_answer}
use Rattle.desks_calls.specs.Run.{Call, DesksState, answer_to}
use Rattle.desks_calls.proofs.Demands.{judged}
use Rattle.desks_calls.proofs.Run.{Right}
use Rattle.either_first.specs.Undone.{RightFor}
use Rattle.either_first.proofs.Files.{marks-restored, restored-right, full-right}
use Rattle.either_desks.specs.Either.{Accepted, handed_on, undoing, is_own, is_common, sees, undone_board, undone, RightSeen}
use Rattle.either_desks.proofs.Desk.{or-none, now-back, desk-undone, desk-refusal}
use Rattle.either_desks.proofs.Desks.{both-common, state_of, now_a, now_b, now_shared, taken-a, taken-b, now-is, twice-is}

-- ---- the bundle that a change is to, by what a desk sees of it
own-a : (a b shared : List ℕ) (w : Whose) → is_own (seen_by_a w) ≡ true → bundle_changed w a b shared ≡ a
unfolding is_own seen_by_a bundle_changed
own-a a b shared DeskA e = refl
own-a a b shared DeskB e = absurd (true≢false (sym e))
own-a a b shared Calendars e = absurd (true≢false (sym e))

own-b : (a b shared : List ℕ) (w : Whose) → is_own (seen_by_b w) ≡ true → bundle_changed w a b shared ≡ b
unfolding is_own seen_by_b bundle_changed
own-b a b shared DeskA e = absurd (true≢false (sym e))
own-b a b shared DeskB e = refl
own-b a b shared Calendars e = absurd (true≢false (sym e))

common-is : (a b shared : List ℕ) (w : Whose) → is_common (seen_by_a w) ≡ true → bundle_changed w a b shared ≡ shared
unfolding is_common seen_by_a bundle_changed
common-is a b shared DeskA e = absurd (true≢false (sym e))
common-is a b shared DeskB e = absurd (true≢false (sym e))
common-is a b shared Calendars e = refl

-- where it is seen
seen-a : (a b shared : List ℕ) (w : Whose) (n : ℕ) → ◌≡◌ {A = ℕ} (cond (sees (seen_by_a w) && ltb n (length (cond (is_common (seen_by_a w)) shared a))) 5 0) (cond (sees (seen_by_a w) && ltb n (length (bundle_changed w a b shared))) 5 0)
unfolding sees is_common seen_by_a bundle_changed
seen-a a b shared DeskA n = refl
seen-a a b shared DeskB n = refl
seen-a a b shared Calendars n = refl

seen_b : (a b shared : List ℕ) (w : Whose) (n : ℕ) → ◌≡◌ {A = ℕ} (cond (sees (seen_by_b w) && ltb n (length (cond (is_common (seen_by_b w)) shared b))) 5 0) (cond (sees (seen_by_b w) && ltb n (length (bundle_changed w a b shared))) 5 0)
unfolding sees is_common seen_by_b bundle_changed
seen_b a b shared DeskA n = refl
seen_b a b shared DeskB n = refl
seen_b a b shared Calendars n = refl

enough : (r : ℕ) (t : Bool) → or_else r (cond (t && false) 5 0) ≡ r
enough r true = or-none r
enough r false = or-none r

-- ---- a desk's board is the handed one again exactly if the marks that read the file were those of the joined set
module _ (g : Gate) (desk shared : List ℕ) (seen : Seen) (k : ℕ) (handed : Marks) where
  restored_by : (join_fault g.files desk shared ≡ 0 → sees seen ≡ true → changed_marks g k (joined_set desk shared) handed ≡ handed) → undone_board g desk shared seen k handed ≡ handed
  unfolding undone_board
  restored_by same =
      by-test (λ r. r ≡ handed) (eqb (join_fault g.files desk shared) 0 && sees seen) _ _
      (λ e. same (eqb-true _ 0 (both_left (eqb (join_fault g.files desk shared) 0) (sees seen) e)) (both_right (eqb (join_fault g.files desk shared) 0) (sees seen) e)) (λ e. refl)

  board-restored : Long (marks_of g) handed → (join_fault g.files desk shared ≡ 0 → sees seen ≡ true → RightFor g k (joined_set desk shared) handed) → undone_board g desk shared seen k handed ≡ handed
  board-restored long right = restored_by (λ fine e. marks-restored g (joined_set desk shared) k (joined_set desk shared k) handed long (right fine e))

  restored-board : undone_board g desk shared seen k handed ≡ handed → join_fault g.files desk shared ≡ 0 → sees seen ≡ true → RightFor g k (joined_set desk shared) handed
  unfolding undone_board
  restored-board same fine e = restored-right g (joined_set desk shared) k (joined_set desk shared k) handed (rw (eq-eqb _ 0 fine, e) at same)

  board-judged : handed ≡ (judged_join g desk shared).marks → undone_board g desk shared seen k handed ≡ handed
  unfolding full_marks
  board-judged right = restored_by (λ fine e. let z : handed ≡ full_marks g (joined_set desk shared) = right ∙ ap (λ r. r.marks) (judged g desk shared fine) in
      marks-restored g (joined_set desk shared) k (joined_set desk shared k) handed (rw z (marks-long (marks_of g) (λ m. mark_at g m (joined_set desk shared)))) (rw z (full-right g (joined_set desk shared) k)))

-- ---- a change undone
module _ (g : Gate) (x : DesksState) (c : Call) (accepted : Accepted g x c) (room : ℕ) where
  abbrev stood : List ℕ
  stood = bundle_changed c.whose x.a x.b x.shared

  old-a : is_own (seen_by_a c.whose) ≡ true → file_at stood c.file ≡ file_at x.a c.file
  old-a e = ap (λ s. file_at s c.file) (own-a x.a x.b x.shared c.whose e)

  old-b : is_own (seen_by_b c.whose) ≡ true → file_at stood c.file ≡ file_at x.b c.file
  old-b e = ap (λ s. file_at s c.file) (own-b x.a x.b x.shared c.whose e)

  old-shared : is_common (seen_by_a c.whose) ≡ true → file_at stood c.file ≡ file_at x.shared c.file
  old-shared e = ap (λ s. file_at s c.file) (common-is x.a x.b x.shared c.whose e)

  shared-b : is_common (seen_by_b c.whose) ≡ true → file_at stood c.file ≡ file_at x.shared c.file
  shared-b e = old-shared (both-common c.whose ∙ e)

  -- no refusal but 5 can meet it beside those of a desk's bundles, which then met the change as well; and 5 exactly where the output is
  -- shorter than the bundle was
  pub undo-refusal-a : (answer_to g (handed_on g x c) (undoing x c room)).a.refusal ≡ or_else (join_fault g.files x.a x.shared) (cond (sees (seen_by_a c.whose) && ltb room (length stood)) 5 0)
  unfolding answer_to desks_answer both_answered desk_answer answered_by undoing
  undo-refusal-a =
      rw (now-is g x c accepted) (desk-refusal g x.a x.shared (seen_by_a c.whose) c.file c.new (file_at stood c.file) c.room room (taken-a g x c accepted) old-a old-shared x.marks_a)
      ∙ ap (or_else (join_fault g.files x.a x.shared)) (seen-a x.a x.b x.shared c.whose room)

  pub undo-refusal-b : (answer_to g (handed_on g x c) (undoing x c room)).b.refusal ≡ or_else (join_fault g.files x.b x.shared) (cond (sees (seen_by_b c.whose) && ltb room (length stood)) 5 0)
  unfolding answer_to desks_answer both_answered desk_answer answered_by undoing
  undo-refusal-b =
      rw (now-is g x c accepted, both-common c.whose) (desk-refusal g x.b x.shared (seen_by_b c.whose) c.file c.new (file_at stood c.file) c.room room (taken-b g x c accepted) old-b shared-b x.marks_b)
      ∙ ap (or_else (join_fault g.files x.b x.shared)) (seen_b x.a x.b x.shared c.whose room)

  -- so it is accepted into an output that is long enough
  still-written : is_written c.whose (join_fault g.files x.a x.shared) (join_fault g.files x.b x.shared) ≡ true
  unfolding Accepted answer_to desks_answer both_answered desk_answer answered_by
  still-written = rw ((taken-a g x c accepted).refusal, (taken-b g x c accepted).refusal) at accepted

  module _ (long : length stood ≤ room) where
    pub undo-accepted : Accepted g (handed_on g x c) (undoing x c room)
    unfolding Accepted undoing
    undo-accepted =
        rw (undo-refusal-a, undo-refusal-b, le-ltb room (length stood) long, enough (join_fault g.files x.a x.shared) (sees (seen_by_a c.whose)), enough (join_fault g.files x.b x.shared) (sees (seen_by_b c.whose))) still-written

    -- each desk's answer in full, whatever was handed in
    pub answer-undone-a : (answer_to g (handed_on g x c) (undoing x c room)).a ≡ desk_answered (join_fault g.files x.a x.shared) (undone g x c).marks_a
    unfolding answer_to desks_answer both_answered undoing undone
    answer-undone-a =
        rw (now-is g x c accepted)
        (desk-undone g x.a x.shared (seen_by_a c.whose) c.file c.new (file_at stood c.file) c.room room (taken-a g x c accepted) old-a old-shared
        (rw (now-is g x c accepted) at (taken-a g (handed_on g x c) (undoing x c room) undo-accepted)) x.marks_a)

    pub answer-undone-b : (answer_to g (handed_on g x c) (undoing x c room)).b ≡ desk_answered (join_fault g.files x.b x.shared) (undone g x c).marks_b
    unfolding answer_to desks_answer both_answered undoing undone
    answer-undone-b =
        rw (now-is g x c accepted, both-common c.whose)
        (desk-undone g x.b x.shared (seen_by_b c.whose) c.file c.new (file_at stood c.file) c.room room (taken-b g x c accepted) old-b shared-b
        (rw (now-is g x c accepted, both-common c.whose) at (taken-b g (handed_on g x c) (undoing x c room) undo-accepted)) x.marks_b)

    -- all three bundles come back byte for byte, and the boards are these
    module _ (bytes : Bytes stood) where
      back_a : now_a g (undoing x c room) (now_a g c x.a) ≡ x.a
      unfolding undoing
      back_a = now-back g x.a x.marks_a (is_own (seen_by_a c.whose)) c.file c.new (file_at stood c.file) c.room (taken-a g x c accepted).own-made old-a (λ e. rw (own-a x.a x.b x.shared c.whose e) at bytes)

      back-b : now_b g (undoing x c room) (now_b g c x.b) ≡ x.b
      unfolding undoing
      back-b = now-back g x.b x.marks_b (is_own (seen_by_b c.whose)) c.file c.new (file_at stood c.file) c.room (taken-b g x c accepted).own-made old-b (λ e. rw (own-b x.a x.b x.shared c.whose e) at bytes)

      back-shared : now_shared g (undoing x c room) (now_shared g c x.shared) ≡ x.shared
      unfolding undoing
      back-shared = now-back g x.shared x.marks_a (is_common (seen_by_a c.whose)) c.file c.new (file_at stood c.file) c.room (taken-a g x c accepted).common-made old-shared (λ e. rw (common-is x.a x.b x.shared c.whose e) at bytes)

      pub undone-is : handed_on g (handed_on g x c) (undoing x c room) ≡ undone g x c
      unfolding undone
      undone-is = twice-is g x c (undoing x c room) accepted undo-accepted ∙ ends
        where
          ends : state_of (now_a g (undoing x c room) (now_a g c x.a)) (now_b g (undoing x c room) (now_b g c x.b)) (now_shared g (undoing x c room) (now_shared g c x.shared)) (answer_to g (handed_on g x c) (undoing x c room)).a.marks (answer_to g (handed_on g x c) (undoing x c room)).b.marks
              ≡ state_of x.a x.b x.shared (undone g x c).marks_a (undone g x c).marks_b
          ends = rw (back_a, back-b, back-shared, answer-undone-a, answer-undone-b)

      -- everything comes back exactly if the marks that read the file were right
      pub undo : Long (marks_of g) x.marks_a → Long (marks_of g) x.marks_b → RightSeen g x c → handed_on g (handed_on g x c) (undoing x c room) ≡ x
      unfolding undone
      undo long-a long-b right =
          undone-is ∙ rw (board-restored g x.a x.shared (seen_by_a c.whose) c.file x.marks_a long-a right.at_a, board-restored g x.b x.shared (seen_by_b c.whose) c.file x.marks_b long-b right.at_b)

      pub undone-right : handed_on g (handed_on g x c) (undoing x c room) ≡ x → RightSeen g x c
      unfolding undone
      undone-right same =
          record {
            at_a = restored-board g x.a x.shared (seen_by_a c.whose) c.file x.marks_a (ap (λ (y : DesksState). y.marks_a) (sym undone-is ∙ same));
            at_b = restored-board g x.b x.shared (seen_by_b c.whose) c.file x.marks_b (ap (λ (y : DesksState). y.marks_b) (sym undone-is ∙ same));
          }

      -- "and a board from full judgement"
      pub undo-judged : Right g x → handed_on g (handed_on g x c) (undoing x c room) ≡ x
      unfolding undone
      undo-judged right =
          undone-is ∙ rw (board-judged g x.a x.shared (seen_by_a c.whose) c.file x.marks_a right.right-a, board-judged g x.b x.shared (seen_by_b c.whose) c.file x.marks_b right.right-b)
