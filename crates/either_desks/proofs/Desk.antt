-- One desk: what an accepted change comes to for it, two of them in either order, and one undone.
-- Assumes nothing.
use Prim.Native.Nat.{ℕ, ◌<◌}
use mathlib.Core.Path.{◌≡◌, refl, sym, ap, ◌∙◌}
use mathlib.Core.Bool.{Bool, true, false, cond, ◌&&◌, true≢false}
use mathlib.Core.List.{List}
use lib.ListN.{length}
use lib.Dec.{ltb, eqb}
use borrow.Author.Tests.{eqb-true}
use Rattle.parts.specs.Files.{File}
use Rattle.mark_numbers.specs.Marks.{Marks}
use Rattle.bundle_bytes.specs.Pieces.{changed}
use Rattle.bundle_bytes.proofs.Laws.{Bytes}
use Rattle.bundle_layout.specs.Bundle.{file_at, bundle_of}
use Rattle.bundle_layout.specs.Change.{files_after, make_fault}
use Rattle.gate_marks.specs.Gate.{Gate}
use Rattle.gate_calls.specs.Calls.{changed_marks}
use Rattle.gate_calls.specs.Sequence.{next}
use Rattle.desks_calls.specs.declared.Seen.{Seen}
use Rattle.desks_calls.specs.declared.Seen.TheVariants.{Nothing, Own, Shared}
use Rattle.desks_calls.specs.Join.{may_hold, joined_set, or_else, join_fault, change_fault, desk_answered}
use Rattle.desks_calls.specs.Desks.{OwnChange, CalendarChange, sight_of, sight_fault, desk_fault, join_after, marks_seen, answered_by, desk_answer}
use Rattle.desks_calls.specs.Run.{bundle_now}
use Rattle.desks_calls.proofs.Laws.{join-none, join-fine, desk-none, change-none, may, shared-or-not, own-join, own-joined, calendar-join, calendar-joined}
use Rattle.either_first.specs.Undone.{Accepted, undoing}
use Rattle.either_first.proofs.Files.{marks-either, marks-back}
use Rattle.either_first.proofs.Bundles.{bundles-either, bundle-undone, undo-refusal}
use Rattle.either_desks.specs.Either.{is_own, is_common, sees, undone_board}

pub or-none : (r : ℕ) → or_else r 0 ≡ r
unfolding or_else
or-none r = go (eqb r 0) refl
  where
    go : (t : Bool) → eqb r 0 ≡ t → cond t 0 r ≡ r
    go true e = sym (eqb-true r 0 e)
    go false e = refl

-- ---- what an accepted change comes to for a desk that sees it so: it is refused for its bundles alone, before and after; the
-- joined set is the old one with the file changed
pub record Taken (n : ℕ) (desk shared : List ℕ) (seen : Seen) (k : ℕ) (f : File) (room : ℕ) : Type 0 where
  pub refusal : desk_fault n desk shared (sight_of seen k f room) ≡ join_fault n desk shared
  pub still : join_fault n (bundle_now n (is_own seen) desk k f) (bundle_now n (is_common seen) shared k f) ≡ join_fault n desk shared
  pub allowed : sees seen ≡ true → may_hold (is_common seen) k ≡ true
  pub own-made : is_own seen ≡ true → make_fault n desk k f room ≡ 0
  pub common-made : is_common seen ≡ true → make_fault n shared k f room ≡ 0
  pub joins : sees seen ≡ true → (i : ℕ) → i < n → joined_set (bundle_now n (is_own seen) desk k f) (bundle_now n (is_common seen) shared k f) i ≡ changed (joined_set desk shared) k f i

module _ (n : ℕ) (desk shared : List ℕ) (k : ℕ) (f : File) (room : ℕ) where
  pub taken_not : Taken n desk shared Nothing k f room
  unfolding sight_of desk_fault sight_fault bundle_now is_own is_common sees
  taken_not =
      record {
        refusal = or-none (join_fault n desk shared);
        still = refl;
        allowed = λ e. absurd (true≢false (sym e));
        own-made = λ e. absurd (true≢false (sym e));
        common-made = λ e. absurd (true≢false (sym e));
        joins = λ e. absurd (true≢false (sym e));
      }

  pub taken_own : desk_fault n desk shared (OwnChange k f room) ≡ 0 → Taken n desk shared Own k f room
  unfolding sight_of sight_fault bundle_now is_own is_common sees
  taken_own e =
      let p = desk-none n desk shared (OwnChange k f room) e in
      let fine : change_fault n false desk k f room ≡ 0 = p.1 in
      record {
        refusal = e ∙ sym p.0;
        still = join-fine n (bundle_of n (files_after desk k f)) shared (own-joined n desk shared k f room fine (join-none n desk shared p.0)) ∙ sym p.0;
        allowed = λ _. may n false desk k f room fine;
        own-made = λ _. (change-none n false desk k f room fine).1;
        common-made = λ e. absurd (true≢false (sym e));
        joins = λ _ i l. sym (own-join n desk shared k f room fine i l);
      }

  -- of the calendars, where any desk is not refused
  pub taken-common : (any : List ℕ) → desk_fault n any shared (CalendarChange k f room) ≡ 0 → Taken n desk shared Shared k f room
  unfolding sight_of desk_fault sight_fault join_fault bundle_now is_own is_common sees
  taken-common any e =
      let p = desk-none n any shared (CalendarChange k f room) e in
      let fine : change_fault n true shared k f room ≡ 0 = p.1 in
      let old = join-none n any shared p.0 in
      let new = calendar-joined n any shared k f room fine old in
      record {
        refusal = ap (or_else (join_fault n desk shared)) fine ∙ or-none (join_fault n desk shared);
        still = rw (old.common, old.common-only, new.common, new.common-only);
        allowed = λ _. may n true shared k f room fine;
        own-made = λ e. absurd (true≢false (sym e));
        common-made = λ _. (change-none n true shared k f room fine).1;
        joins = λ _ i l. sym (calendar-join n desk shared k f room fine i l);
      }

-- ---- what is seen
pub own-seen : (seen : Seen) → is_own seen ≡ true → sees seen ≡ true
unfolding is_own sees
own-seen Nothing e = e
own-seen Own e = refl
own-seen Shared e = refl

pub common-seen : (seen : Seen) → is_common seen ≡ true → sees seen ≡ true
unfolding is_common sees
common-seen Nothing e = e
common-seen Own e = refl
common-seen Shared e = refl

seen-own : (seen : Seen) → sees seen ≡ true → is_common seen ≡ false → is_own seen ≡ true
unfolding is_own is_common sees
seen-own Nothing e q = e
seen-own Own e q = refl
seen-own Shared e q = sym q

-- one that it does not see leaves the joined set as it was
not-joined : (n : ℕ) (desk shared : List ℕ) (seen : Seen) (k : ℕ) (f : File) → sees seen ≡ false → joined_set (bundle_now n (is_own seen) desk k f) (bundle_now n (is_common seen) shared k f) ≡ joined_set desk shared
unfolding bundle_now is_own is_common sees
not-joined n desk shared Nothing k f e = refl
not-joined n desk shared Own k f e = absurd (true≢false e)
not-joined n desk shared Shared k f e = absurd (true≢false e)

-- ---- its answer
both-tests : {A : Type 0} (t u : Bool) (x y : A) → cond t (cond u x y) y ≡ cond (t && u) x y
both-tests true u x y = refl
both-tests false u x y = refl

seen-marks : (g : Gate) (desk shared : List ℕ) (seen : Seen) (k : ℕ) (f : File) (room : ℕ) (handed : Marks) → marks_seen g desk shared (sight_of seen k f room) handed ≡ cond (sees seen) (changed_marks g k (changed (joined_set desk shared) k f) handed) handed
unfolding marks_seen join_after sight_of sees
seen-marks g desk shared Nothing k f room handed = refl
seen-marks g desk shared Own k f room handed = refl
seen-marks g desk shared Shared k f room handed = refl

answer-is : (g : Gate) (desk shared : List ℕ) (seen : Seen) (k : ℕ) (f : File) (room : ℕ) → Taken g.files desk shared seen k f room → (handed : Marks)
    → desk_answer g desk shared (sight_of seen k f room) handed ≡ desk_answered (join_fault g.files desk shared) (cond (eqb (join_fault g.files desk shared) 0 && sees seen) (changed_marks g k (changed (joined_set desk shared) k f) handed) handed)
unfolding desk_answer answered_by
answer-is g desk shared seen k f room c handed =
    rw (c.refusal, seen-marks g desk shared seen k f room handed, both-tests (eqb (join_fault g.files desk shared) 0) (sees seen) (changed_marks g k (changed (joined_set desk shared) k f) handed) handed)

-- ---- two changes, one after the other
abbrev board_of : Gate → List ℕ → List ℕ → Bool → ℕ → File → Marks → Marks
board_of g desk shared judges k f handed = cond judges (changed_marks g k (changed (joined_set desk shared) k f) handed) handed

module _ (g : Gate) (desk shared : List ℕ) (seen_c seen_d : Seen) (k j : ℕ) (f h : File) (room_c room_d : ℕ) (c : Taken g.files desk shared seen_c k f room_c) where
  abbrev own : List ℕ
  own = bundle_now g.files (is_own seen_c) desk k f

  abbrev common : List ℕ
  common = bundle_now g.files (is_common seen_c) shared k f

  abbrev fine : Bool
  fine = eqb (join_fault g.files desk shared) 0

  two-answers : Taken g.files own common seen_d j h room_d → (handed : Marks)
      → desk_answer g own common (sight_of seen_d j h room_d) (desk_answer g desk shared (sight_of seen_c k f room_c) handed).marks ≡ desk_answered (join_fault g.files desk shared) (board_of g own common (fine && sees seen_d) j h (board_of g desk shared (fine && sees seen_c) k f handed))
  two-answers d handed =
      answer-is g own common seen_d j h room_d d (desk_answer g desk shared (sight_of seen_c k f room_c) handed).marks ∙ rw (c.still, answer-is g desk shared seen_c k f room_c c handed)

-- a bundle in either order
now-either : (g : Gate) (s : List ℕ) → Marks → (p q : Bool) (k j : ℕ) (f h : File) (room_c room_d : ℕ) → (p ≡ true → make_fault g.files s k f room_c ≡ 0) → (q ≡ true → make_fault g.files s j h room_d ≡ 0) → (p ≡ true → q ≡ true → k ≡ j → ⊥)
    → bundle_now g.files q (bundle_now g.files p s k f) j h ≡ bundle_now g.files p (bundle_now g.files q s j h) k f
unfolding bundle_now Accepted next
now-either g s any true true k j f h room_c room_d c d apart =
    bundles-either g (record { bundle = s; marks = any }) (record { file = k; new = f; room = room_c }) (record { file = j; new = h; room = room_d }) (apart refl refl) (c refl) (d refl)
now-either g s any true false k j f h room_c room_d c d apart = refl
now-either g s any false true k j f h room_c room_d c d apart = refl
now-either g s any false false k j f h room_c room_d c d apart = refl

-- in either order
module _ (g : Gate) (desk shared : List ℕ) (seen_c seen_d : Seen) (k j : ℕ) (f h : File) (room_c room_d : ℕ) (apart : sees seen_c ≡ true → sees seen_d ≡ true → k ≡ j → ⊥)
    (c : Taken g.files desk shared seen_c k f room_c) (d : Taken g.files desk shared seen_d j h room_d) where
  abbrev own-c : List ℕ
  own-c = bundle_now g.files (is_own seen_c) desk k f

  abbrev own-d : List ℕ
  own-d = bundle_now g.files (is_own seen_d) desk j h

  abbrev shared-c : List ℕ
  shared-c = bundle_now g.files (is_common seen_c) shared k f

  abbrev shared-d : List ℕ
  shared-d = bundle_now g.files (is_common seen_d) shared j h

  boards-either : (handed : Marks) (fine t : Bool) → sees seen_c ≡ t → (u : Bool) → sees seen_d ≡ u
      → board_of g own-c shared-c (fine && u) j h (board_of g desk shared (fine && t) k f handed) ≡ board_of g own-d shared-d (fine && t) k f (board_of g desk shared (fine && u) j h handed)
  boards-either handed false t e u q = refl
  boards-either handed true true e true q = marks-either g (joined_set desk shared) k j f h (apart e q) (joined_set own-c shared-c) (joined_set own-d shared-d) (c.joins e) (d.joins q) handed
  boards-either handed true true e false q = rw (not-joined g.files desk shared seen_d j h q)
  boards-either handed true false e true q = rw (not-joined g.files desk shared seen_c k f e)
  boards-either handed true false e false q = refl

  -- the bundles
  pub own-either : Marks → bundle_now g.files (is_own seen_d) own-c j h ≡ bundle_now g.files (is_own seen_c) own-d k f
  own-either any =
      now-either g desk any (is_own seen_c) (is_own seen_d) k j f h room_c room_d c.own-made d.own-made (λ e q. apart (own-seen seen_c e) (own-seen seen_d q))

  pub shared-either : Marks → bundle_now g.files (is_common seen_d) shared-c j h ≡ bundle_now g.files (is_common seen_c) shared-d k f
  shared-either any =
      now-either g shared any (is_common seen_c) (is_common seen_d) k j f h room_c room_d c.common-made d.common-made (λ e q. apart (common-seen seen_c e) (common-seen seen_d q))

  -- the answers
  pub desk-either : Taken g.files own-c shared-c seen_d j h room_d → Taken g.files own-d shared-d seen_c k f room_c → (handed : Marks)
      → desk_answer g own-c shared-c (sight_of seen_d j h room_d) (desk_answer g desk shared (sight_of seen_c k f room_c) handed).marks ≡ desk_answer g own-d shared-d (sight_of seen_c k f room_c) (desk_answer g desk shared (sight_of seen_d j h room_d) handed).marks
  desk-either then-d then-c handed =
      two-answers g desk shared seen_c seen_d k j f h room_c room_d c then-d handed
      ∙ ap (desk_answered (join_fault g.files desk shared)) (boards-either handed (eqb (join_fault g.files desk shared) 0) (sees seen_c) refl (sees seen_d) refl)
      ∙ sym (two-answers g desk shared seen_d seen_c j k h f room_d room_c d then-c handed)

-- ---- a change undone
pub now-back : (g : Gate) (s : List ℕ) → Marks → (p : Bool) (k : ℕ) (f old : File) (room : ℕ) → (p ≡ true → make_fault g.files s k f room ≡ 0) → (p ≡ true → old ≡ file_at s k) → (p ≡ true → Bytes s) → bundle_now g.files p (bundle_now g.files p s k f) k old ≡ s
unfolding bundle_now Accepted next undoing
now-back g s any true k f old room c stood bytes =
    rw (stood refl) (bundle-undone g (record { bundle = s; marks = any }) (record { file = k; new = f; room = room }) (c refl) room (bytes refl))
now-back g s any false k f old room c stood bytes = refl

made-back : (g : Gate) (t : Bool) (s : List ℕ) → Marks → (k : ℕ) (f old : File) (room back : ℕ) → may_hold t k ≡ true → make_fault g.files s k f room ≡ 0 → old ≡ file_at s k → change_fault g.files t (bundle_of g.files (files_after s k f)) k old back ≡ cond (ltb back (length s)) 5 0
unfolding change_fault Accepted next
made-back g t s any k f old room back held made e =
    rw (held, e) (allowed-so (ltb k g.files) 9 _ ∙ undo-refusal g (record { bundle = s; marks = any }) (record { file = k; new = f; room = room }) made back)
  where
    allowed-so : (u : Bool) (x y : ℕ) → cond (u && false) x y ≡ y
    allowed-so true x y = refl
    allowed-so false x y = refl

sight-back : (g : Gate) (desk shared : List ℕ) → Marks → (seen : Seen) (k : ℕ) (f old : File) (room back : ℕ) → Taken g.files desk shared seen k f room → (is_own seen ≡ true → old ≡ file_at desk k) → (is_common seen ≡ true → old ≡ file_at shared k)
    → sight_fault g.files (bundle_now g.files (is_own seen) desk k f) (bundle_now g.files (is_common seen) shared k f) (sight_of seen k old back) ≡ cond (sees seen && ltb back (length (cond (is_common seen) shared desk))) 5 0
unfolding sight_fault sight_of bundle_now is_own is_common sees
sight-back g desk shared any Nothing k f old room back c own_old common-old = refl
sight-back g desk shared any Own k f old room back c own_old common-old = made-back g false desk any k f old room back (c.allowed refl) (c.own-made refl) (own_old refl)
sight-back g desk shared any Shared k f old room back c own_old common-old = made-back g true shared any k f old room back (c.allowed refl) (c.common-made refl) (common-old refl)

-- `old` is what stood in the place of the file
module _ (g : Gate) (desk shared : List ℕ) (seen : Seen) (k : ℕ) (f old : File) (room back : ℕ) (c : Taken g.files desk shared seen k f room) (own_old : is_own seen ≡ true → old ≡ file_at desk k) (common-old : is_common seen ≡ true → old ≡ file_at shared k) where
  abbrev own-now : List ℕ
  own-now = bundle_now g.files (is_own seen) desk k f

  abbrev shared-now : List ℕ
  shared-now = bundle_now g.files (is_common seen) shared k f

  -- in the joined set too
  stood : sees seen ≡ true → old ≡ joined_set desk shared k
  unfolding joined_set
  stood e = rw (shared-or-not (is_common seen) k (c.allowed e)) (go (is_common seen) refl)
    where
      go : (t : Bool) → is_common seen ≡ t → old ≡ cond t (file_at shared k) (file_at desk k)
      go true q = common-old q
      go false q = own_old (seen-own seen e q)

  board-back : (handed : Marks) (fine t : Bool) → sees seen ≡ t → board_of g own-now shared-now (fine && t) k old (board_of g desk shared (fine && t) k f handed) ≡ cond (fine && t) (changed_marks g k (joined_set desk shared) handed) handed
  board-back handed false t e = refl
  board-back handed true true e = rw (stood e) (marks-back g (joined_set desk shared) k f (joined_set own-now shared-now) (c.joins e) handed)
  board-back handed true false e = refl

  pub desk-undone : Taken g.files own-now shared-now seen k old back → (handed : Marks)
      → desk_answer g own-now shared-now (sight_of seen k old back) (desk_answer g desk shared (sight_of seen k f room) handed).marks ≡ desk_answered (join_fault g.files desk shared) (undone_board g desk shared seen k handed)
  unfolding undone_board
  desk-undone again handed =
      two-answers g desk shared seen seen k k f old room back c again handed
      ∙ ap (desk_answered (join_fault g.files desk shared)) (board-back handed (eqb (join_fault g.files desk shared) 0) (sees seen) refl)

  -- no refusal but 5 can meet it beside those of the desk's bundles, and that exactly where the output is shorter than the bundle was
  pub desk-refusal : Marks → desk_fault g.files own-now shared-now (sight_of seen k old back) ≡ or_else (join_fault g.files desk shared) (cond (sees seen && ltb back (length (cond (is_common seen) shared desk))) 5 0)
  unfolding desk_fault
  desk-refusal any =
      rw c.still (ap (or_else (join_fault g.files desk shared)) (sight-back g desk shared any seen k f old room back c own_old common-old))
