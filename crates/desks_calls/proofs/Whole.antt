-- Both desks in one call: what each is answered is a function of its own things, and what is written. Quotations are of
-- document 02, order 10.
-- Assumes nothing.
use Prim.Native.Nat.{ℕ}
use mathlib.Core.Path.{◌≡◌, refl, sym, ◌∙◌}
use mathlib.Core.Bool.{Bool, true, false, ◌||◌, true≢false}
use mathlib.Core.List.{List}
use borrow.Author.Tests.{eqb-true}
use lib.Dec.{eqb}
use Rattle.parts.specs.Files.{File}
use Rattle.bundle_layout.specs.Change.{make_fault}
use Rattle.gate_marks.specs.Gate.{Gate}
use Rattle.desks_calls.specs.declared.Whose.{Whose}
use Rattle.desks_calls.specs.declared.Whose.TheVariants.{DeskA, DeskB, Calendars}
use Rattle.desks_calls.specs.Desks.{Sight, OwnChange, CalendarChange, sight_of, seen_by_a, seen_by_b, sight_fault, desk_fault, desk_answer, bundle_changed, is_written, both_answered, desks_answer}
use Rattle.desks_calls.specs.Run.{Call, DesksState, answer_to}
use Rattle.desks_calls.proofs.Laws.{desk-none, change-none}

-- what a desk sees of a call
pub sight_a : Call → Sight
sight_a c = sight_of (seen_by_a c.whose) c.file c.new c.room

pub sight_b : Call → Sight
sight_b c = sight_of (seen_by_b c.whose) c.file c.new c.room

module _ (g : Gate) where
  -- each desk is answered by its own things alone
  pub desk-alone-a : (x : DesksState) (c : Call) → (answer_to g x c).a ≡ desk_answer g x.a x.shared (sight_a c) x.marks_a
  unfolding answer_to desks_answer both_answered sight_a
  desk-alone-a x c = refl

  pub desk-alone-b : (x : DesksState) (c : Call) → (answer_to g x c).b ≡ desk_answer g x.b x.shared (sight_b c) x.marks_b
  unfolding answer_to desks_answer both_answered sight_b
  desk-alone-b x c = refl

  -- "Two runs that agree on one desk's bundle and handed board, the calendars, and any change to these with its output's length
  -- give that desk the same board and refusals."
  pub two-runs-a : (x y : DesksState) (c d : Call) → x.a ≡ y.a → x.marks_a ≡ y.marks_a → x.shared ≡ y.shared → sight_a c ≡ sight_a d → (answer_to g x c).a ≡ (answer_to g y d).a
  two-runs-a x y c d bundle board calendars change =
      desk-alone-a x c ∙ rw (bundle, board, calendars, change) (sym (desk-alone-a y d))

  pub two-runs-b : (x y : DesksState) (c d : Call) → x.b ≡ y.b → x.marks_b ≡ y.marks_b → x.shared ≡ y.shared → sight_b c ≡ sight_b d → (answer_to g x c).b ≡ (answer_to g y d).b
  two-runs-b x y c d bundle board calendars change =
      desk-alone-b x c ∙ rw (bundle, board, calendars, change) (sym (desk-alone-b y d))

-- ---- a change that some concerned desk is not refused for can be made
module _ (n : ℕ) (a b shared : List ℕ) (k : ℕ) (f : File) (room : ℕ) where
  own-made : (desk : List ℕ) → desk_fault n desk shared (OwnChange k f room) ≡ 0 → make_fault n desk k f room ≡ 0
  unfolding sight_fault
  own-made desk e = (change-none n false desk k f room (desk-none n desk shared (OwnChange k f room) e).1).1

  calendar-made : (desk : List ℕ) → desk_fault n desk shared (CalendarChange k f room) ≡ 0 → make_fault n shared k f room ≡ 0
  unfolding sight_fault
  calendar-made desk e = (change-none n true shared k f room (desk-none n desk shared (CalendarChange k f room) e).1).1

  pub written-made : (whose : Whose) {of_a of_b : ℕ} → (of_a ≡ 0 → desk_fault n a shared (sight_of (seen_by_a whose) k f room) ≡ 0) → (of_b ≡ 0 → desk_fault n b shared (sight_of (seen_by_b whose) k f room) ≡ 0) → is_written whose of_a of_b ≡ true → make_fault n (bundle_changed whose a b shared) k f room ≡ 0
  unfolding sight_of seen_by_a seen_by_b is_written bundle_changed
  written-made DeskA {of_a} {of_b} p q w = own-made a (p (eqb-true of_a 0 w))
  written-made DeskB {of_a} {of_b} p q w = own-made b (q (eqb-true of_b 0 w))
  written-made Calendars {of_a} {of_b} p q w = go (eqb of_a 0) refl (eqb of_b 0) refl w
    where
      go : (t : Bool) → eqb of_a 0 ≡ t → (u : Bool) → eqb of_b 0 ≡ u → (t || u) ≡ true → make_fault n shared k f room ≡ 0
      go true e u h z = calendar-made a (p (eqb-true of_a 0 e))
      go false e true h z = calendar-made b (q (eqb-true of_b 0 h))
      go false e false h z = absurd (true≢false (sym z))
