-- Document 02, order 13, for two desks and their calendars: changes of two different files, "accepted in both orders, end in one
-- board and one bundle, byte for byte": each desk's board and each of the three bundles.
-- Assumes nothing.
use Prim.Native.Nat.{ℕ}
use mathlib.Core.Path.{◌≡◌, refl, sym, ap, ◌∙◌}
use mathlib.Core.Bool.{Bool, true, false, ◌||◌, true≢false}
use mathlib.Core.List.{List}
use borrow.Author.Tests.{eqb-true}
use lib.Dec.{eqb}
use Rattle.mark_numbers.specs.Marks.{Marks}
use Rattle.gate_marks.specs.Gate.{Gate}
use Rattle.desks_calls.specs.declared.Whose.{Whose}
use Rattle.desks_calls.specs.declared.Whose.TheVariants.{DeskA, DeskB, Calendars}
use Rattle.desks_calls.specs.declared.Seen.{Seen}
use Rattle.desks_calls.specs.declared.Seen.TheVariants.{Nothing, Own, Shared}
use Rattle.desks_calls.specs.Join.{is_shared}
use Rattle.desks_calls.specs.Desks.{CalendarChange, sight_of, seen_by_a, seen_by_b, desk_fault, answered_by, desk_answer, is_written, DesksAnswer, both_answered, desks_answer}
use Rattle.desks_calls.specs.Run.{Call, DesksState, answer_to, bundle_now, marks_now, desks_next, desks_stepped}
use Rattle.desks_calls.proofs.Laws.{shared-or-not}
use Rattle.either_desks.specs.Either.{Apart, Accepted, handed_on, BothOrders, is_own, is_common, sees}
use Rattle.either_desks.proofs.Desk.{Taken, taken_not, taken_own, taken-common, own-either, shared-either, desk-either}

-- ---- whose change it is, by what a desk sees of it
whose_a : Seen → Whose
whose_a Nothing = DeskB
whose_a Own = DeskA
whose_a Shared = Calendars

whose_b : Seen → Whose
whose_b Nothing = DeskA
whose_b Own = DeskB
whose_b Shared = Calendars

whose-a : (w : Whose) → whose_a (seen_by_a w) ≡ w
unfolding seen_by_a whose_a
whose-a DeskA = refl
whose-a DeskB = refl
whose-a Calendars = refl

whose-b : (w : Whose) → whose_b (seen_by_b w) ≡ w
unfolding seen_by_b whose_b
whose-b DeskA = refl
whose-b DeskB = refl
whose-b Calendars = refl

-- two changes that a desk sees are both of its own bundle or both of the calendars, where they are of files of one number
same_seen : (s t : Seen) → sees s ≡ true → sees t ≡ true → is_common s ≡ is_common t → s ≡ t
unfolding sees is_common
same_seen Nothing t e q h = absurd (true≢false (sym e))
same_seen Own Nothing e q h = absurd (true≢false (sym q))
same_seen Own Own e q h = refl
same_seen Own Shared e q h = absurd (true≢false (sym h))
same_seen Shared Nothing e q h = absurd (true≢false (sym q))
same_seen Shared Own e q h = absurd (true≢false h)
same_seen Shared Shared e q h = refl

pub both-common : (w : Whose) → is_common (seen_by_a w) ≡ is_common (seen_by_b w)
unfolding seen_by_a seen_by_b is_common
both-common DeskA = refl
both-common DeskB = refl
both-common Calendars = refl

-- ---- what an accepted change comes to
abbrev pub state_of : List ℕ → List ℕ → List ℕ → Marks → Marks → DesksState
state_of a b shared marks_a marks_b = record { a = a; b = b; shared = shared; marks_a = marks_a; marks_b = marks_b }

-- the three bundles after it
abbrev pub now_a : Gate → Call → List ℕ → List ℕ
now_a g c s = bundle_now g.files (is_own (seen_by_a c.whose)) s c.file c.new

abbrev pub now_b : Gate → Call → List ℕ → List ℕ
now_b g c s = bundle_now g.files (is_own (seen_by_b c.whose)) s c.file c.new

abbrev pub now_shared : Gate → Call → List ℕ → List ℕ
now_shared g c s = bundle_now g.files (is_common (seen_by_a c.whose)) s c.file c.new

module _ (g : Gate) (x : DesksState) (c : Call) (accepted : Accepted g x c) where
  -- a calendar change is accepted by some desk
  common : (desk : List ℕ) → is_written Calendars (desk_fault g.files x.a x.shared (CalendarChange c.file c.new c.room)) (desk_fault g.files x.b x.shared (CalendarChange c.file c.new c.room)) ≡ true → Taken g.files desk x.shared Shared c.file c.new c.room
  unfolding is_written
  common desk e = go (eqb (desk_fault g.files x.a x.shared (CalendarChange c.file c.new c.room)) 0) refl e
    where
      by : (any : List ℕ) → eqb (desk_fault g.files any x.shared (CalendarChange c.file c.new c.room)) 0 ≡ true → Taken g.files desk x.shared Shared c.file c.new c.room
      by any q = taken-common g.files desk x.shared c.file c.new c.room any (eqb-true _ 0 q)

      go : (t : Bool) → eqb (desk_fault g.files x.a x.shared (CalendarChange c.file c.new c.room)) 0 ≡ t → (t || eqb (desk_fault g.files x.b x.shared (CalendarChange c.file c.new c.room)) 0) ≡ true → Taken g.files desk x.shared Shared c.file c.new c.room
      go true q h = by x.a q
      go false q h = by x.b h

  pub taken-a : Taken g.files x.a x.shared (seen_by_a c.whose) c.file c.new c.room
  unfolding Accepted answer_to desks_answer both_answered desk_answer answered_by is_written seen_by_a seen_by_b sight_of
  taken-a = go c.whose accepted
    where
      go : (w : Whose) → is_written w (desk_fault g.files x.a x.shared (sight_of (seen_by_a w) c.file c.new c.room)) (desk_fault g.files x.b x.shared (sight_of (seen_by_b w) c.file c.new c.room)) ≡ true → Taken g.files x.a x.shared (seen_by_a w) c.file c.new c.room
      go DeskA e = taken_own g.files x.a x.shared c.file c.new c.room (eqb-true _ 0 e)
      go DeskB e = taken_not g.files x.a x.shared c.file c.new c.room
      go Calendars e = common x.a e

  pub taken-b : Taken g.files x.b x.shared (seen_by_b c.whose) c.file c.new c.room
  unfolding Accepted answer_to desks_answer both_answered desk_answer answered_by is_written seen_by_a seen_by_b sight_of
  taken-b = go c.whose accepted
    where
      go : (w : Whose) → is_written w (desk_fault g.files x.a x.shared (sight_of (seen_by_a w) c.file c.new c.room)) (desk_fault g.files x.b x.shared (sight_of (seen_by_b w) c.file c.new c.room)) ≡ true → Taken g.files x.b x.shared (seen_by_b w) c.file c.new c.room
      go DeskA e = taken_not g.files x.b x.shared c.file c.new c.room
      go DeskB e = taken_own g.files x.b x.shared c.file c.new c.room (eqb-true _ 0 e)
      go Calendars e = common x.b e

  -- the bundles that are at hand then
  pub now-is : handed_on g x c ≡ state_of (now_a g c x.a) (now_b g c x.b) (now_shared g c x.shared) (answer_to g x c).a.marks (answer_to g x c).b.marks
  unfolding Accepted handed_on desks_stepped desks_next bundle_now seen_by_a seen_by_b is_own is_common
  now-is = rw accepted (go c.whose)
    where
      go : (w : Whose) → state_of (desks_next g w true c.file c.new x (answer_to g x c)).a (desks_next g w true c.file c.new x (answer_to g x c)).b (desks_next g w true c.file c.new x (answer_to g x c)).shared (answer_to g x c).a.marks (answer_to g x c).b.marks
          ≡ state_of (bundle_now g.files (is_own (seen_by_a w)) x.a c.file c.new) (bundle_now g.files (is_own (seen_by_b w)) x.b c.file c.new) (bundle_now g.files (is_common (seen_by_a w)) x.shared c.file c.new) (answer_to g x c).a.marks (answer_to g x c).b.marks
      go DeskA = refl
      go DeskB = refl
      go Calendars = refl

-- a run's step is the same, but that a desk refused beside written calendars starts again there from a full judgement
pub run_step : (g : Gate) (x : DesksState) (c : Call) → (answer_to g x c).a.refusal ≡ 0 → (answer_to g x c).b.refusal ≡ 0 → desks_stepped g x c ≡ handed_on g x c
unfolding handed_on desks_stepped desks_next marks_now is_written
run_step g x c a b = go c.whose (answer_to g x c) a b
  where
    go : (w : Whose) (r : DesksAnswer) → r.a.refusal ≡ 0 → r.b.refusal ≡ 0 → desks_next g w (is_written w r.a.refusal r.b.refusal) c.file c.new x r ≡ state_of (desks_next g w (is_written w r.a.refusal r.b.refusal) c.file c.new x r).a (desks_next g w (is_written w r.a.refusal r.b.refusal) c.file c.new x r).b (desks_next g w (is_written w r.a.refusal r.b.refusal) c.file c.new x r).shared r.a.marks r.b.marks
    go DeskA r p q = refl
    go DeskB r p q = refl
    go Calendars r p q = rw (p, q)

-- two of them, one after the other
pub twice-is : (g : Gate) (x : DesksState) (c d : Call) → Accepted g x c → Accepted g (handed_on g x c) d
    → handed_on g (handed_on g x c) d ≡ state_of (now_a g d (now_a g c x.a)) (now_b g d (now_b g c x.b)) (now_shared g d (now_shared g c x.shared)) (answer_to g (handed_on g x c) d).a.marks (answer_to g (handed_on g x c) d).b.marks
twice-is g x c d first then =
    now-is g (handed_on g x c) d then
    ∙ ap (λ (y : DesksState). state_of (now_a g d y.a) (now_b g d y.b) (now_shared g d y.shared) (answer_to g (handed_on g x c) d).a.marks (answer_to g (handed_on g x c) d).b.marks) (now-is g x c first)

-- ---- two changes of two files, from any handed boards
module _ (g : Gate) (x : DesksState) (c d : Call) (apart : Apart c d) (both : BothOrders g x c d) where
  -- where a desk sees both they have two numbers: of one bundle they are told apart by these, and no number is of both bundles
  apart-a : sees (seen_by_a c.whose) ≡ true → sees (seen_by_a d.whose) ≡ true → c.file ≡ d.file → ⊥
  apart-a p q e =
      apart (sym (whose-a c.whose) ∙ ap whose_a (same_seen (seen_by_a c.whose) (seen_by_a d.whose) p q tell) ∙ whose-a d.whose) e
    where
      tell : is_common (seen_by_a c.whose) ≡ is_common (seen_by_a d.whose)
      tell =
          sym (shared-or-not (is_common (seen_by_a c.whose)) c.file ((taken-a g x c both.c-first).allowed p)) ∙ ap is_shared e
          ∙ shared-or-not (is_common (seen_by_a d.whose)) d.file ((taken-a g x d both.d-first).allowed q)

  apart-b : sees (seen_by_b c.whose) ≡ true → sees (seen_by_b d.whose) ≡ true → c.file ≡ d.file → ⊥
  apart-b p q e =
      apart (sym (whose-b c.whose) ∙ ap whose_b (same_seen (seen_by_b c.whose) (seen_by_b d.whose) p q tell) ∙ whose-b d.whose) e
    where
      tell : is_common (seen_by_b c.whose) ≡ is_common (seen_by_b d.whose)
      tell =
          sym (shared-or-not (is_common (seen_by_b c.whose)) c.file ((taken-b g x c both.c-first).allowed p)) ∙ ap is_shared e
          ∙ shared-or-not (is_common (seen_by_b d.whose)) d.file ((taken-b g x d both.d-first).allowed q)

  -- each desk gets one answer, refused or not
  pub answer-a : (answer_to g (handed_on g x c) d).a ≡ (answer_to g (handed_on g x d) c).a
  unfolding answer_to desks_answer both_answered
  answer-a =
      rw (now-is g x c both.c-first, now-is g x d both.d-first)
      (desk-either g x.a x.shared (seen_by_a c.whose) (seen_by_a d.whose) c.file d.file c.new d.new c.room d.room apart-a
      (taken-a g x c both.c-first) (taken-a g x d both.d-first)
      (rw (now-is g x c both.c-first) at (taken-a g (handed_on g x c) d both.then-d)) (rw (now-is g x d both.d-first) at (taken-a g (handed_on g x d) c both.then-c)) x.marks_a)

  pub answer-b : (answer_to g (handed_on g x c) d).b ≡ (answer_to g (handed_on g x d) c).b
  unfolding answer_to desks_answer both_answered
  answer-b =
      rw (now-is g x c both.c-first, now-is g x d both.d-first, both-common c.whose, both-common d.whose)
      (desk-either g x.b x.shared (seen_by_b c.whose) (seen_by_b d.whose) c.file d.file c.new d.new c.room d.room apart-b
      (taken-b g x c both.c-first) (taken-b g x d both.d-first)
      (rw (now-is g x c both.c-first, both-common c.whose) at (taken-b g (handed_on g x c) d both.then-d)) (rw (now-is g x d both.d-first, both-common d.whose) at (taken-b g (handed_on g x d) c both.then-c)) x.marks_b)

  -- and everything at hand is the same: the three bundles, byte for byte, and both boards
  pub either_first : handed_on g (handed_on g x c) d ≡ handed_on g (handed_on g x d) c
  either_first = twice-is g x c d both.c-first both.then-d ∙ same ∙ sym (twice-is g x d c both.d-first both.then-c)
    where
      same : state_of (now_a g d (now_a g c x.a)) (now_b g d (now_b g c x.b)) (now_shared g d (now_shared g c x.shared)) (answer_to g (handed_on g x c) d).a.marks (answer_to g (handed_on g x c) d).b.marks
          ≡ state_of (now_a g c (now_a g d x.a)) (now_b g c (now_b g d x.b)) (now_shared g c (now_shared g d x.shared)) (answer_to g (handed_on g x d) c).a.marks (answer_to g (handed_on g x d) c).b.marks
      same =
          rw (
            own-either g x.a x.shared (seen_by_a c.whose) (seen_by_a d.whose) c.file d.file c.new d.new c.room d.room apart-a (taken-a g x c both.c-first) (taken-a g x d both.d-first) x.marks_a,
            own-either g x.b x.shared (seen_by_b c.whose) (seen_by_b d.whose) c.file d.file c.new d.new c.room d.room apart-b (taken-b g x c both.c-first) (taken-b g x d both.d-first) x.marks_b,
            shared-either g x.a x.shared (seen_by_a c.whose) (seen_by_a d.whose) c.file d.file c.new d.new c.room d.room apart-a (taken-a g x c both.c-first) (taken-a g x d both.d-first) x.marks_a,
            answer-a,
            answer-b,
          )
