-- The demands, for two desks. Quotations are of document 02, order 10.
-- Assumes nothing.
use Prim.Native.Nat.{ℕ, ◌<◌}
use mathlib.Core.Path.{◌≡◌, refl, sym, ap, ◌∙◌}
use mathlib.Core.Bool.{Bool, true, false, cond}
use mathlib.Core.List.{List}
use borrow.Author.Tests.{ne_eqb}
use lib.Dec.{eqb}
use Rattle.json_bytes.proofs.Laws.{by-test}
use Rattle.parts.specs.Files.{File}
use Rattle.mark_numbers.specs.Marks.{Marks, mark_in, fresh_marks}
use Rattle.mark_numbers.proofs.Laws.{marks-same}
use Rattle.bundle_bytes.specs.Pieces.{changed}
use Rattle.bundle_layout.specs.Bundle.{bundle_of}
use Rattle.bundle_layout.specs.Change.{files_after}
use Rattle.gate_marks.specs.Gate.{Gate, marks_of, reads_file}
use Rattle.gate_marks.specs.Marks.{mark_at, full_marks}
use Rattle.gate_marks.proofs.Laws.{mark-keeps}
use Rattle.gate_calls.specs.Calls.{changed_marks}
use Rattle.gate_calls.proofs.Demand3.{full-same, full-mark, any-board}
use Rattle.desks_calls.specs.Join.{joined_set, join_fault, change_fault, desk_answered, judged_by, judged_join}
use Rattle.desks_calls.specs.Desks.{Sight, NoChange, OwnChange, CalendarChange, sight_fault, desk_fault, join_after, marks_seen, answered_by, desk_answer}
use Rattle.desks_calls.proofs.Laws.{join-none, join-fine, desk-none, own-join, own-joined, calendar-join, calendar-joined}

-- ---- a desk judged in full, from the joined set alone
module _ (g : Gate) (desk shared : List ℕ) where
  pub judged : join_fault g.files desk shared ≡ 0 → judged_join g desk shared ≡ desk_answered 0 (full_marks g (joined_set desk shared))
  unfolding judged_join judged_by
  judged e = rw e

  pub not-judged : (join_fault g.files desk shared ≡ 0 → ⊥) → judged_join g desk shared ≡ desk_answered (join_fault g.files desk shared) (fresh_marks (marks_of g))
  unfolding judged_join judged_by
  not-judged e = rw (ne_eqb (join_fault g.files desk shared) 0 e)

-- ---- one desk
module _ (g : Gate) (desk shared : List ℕ) (sight : Sight) (handed : Marks) where
  -- "a refusal .. is that desk's alone": it comes with the board as handed in
  pub refused : (desk_fault g.files desk shared sight ≡ 0 → ⊥) → desk_answer g desk shared sight handed ≡ desk_answered (desk_fault g.files desk shared sight) handed
  unfolding desk_answer answered_by
  refused n = rw (ne_eqb (desk_fault g.files desk shared sight) 0 n)

  pub accepted : desk_fault g.files desk shared sight ≡ 0 → desk_answer g desk shared sight handed ≡ desk_answered 0 (marks_seen g desk shared sight handed)
  unfolding desk_answer answered_by
  accepted e = rw e

  -- "A desk's change hands the other's board back.", refused or not
  pub not_seen : sight ≡ NoChange → (desk_answer g desk shared sight handed).marks ≡ handed
  unfolding desk_answer answered_by marks_seen
  not_seen e = rw e (go (eqb (desk_fault g.files desk shared NoChange) 0))
    where
      go : (t : Bool) → cond t handed handed ≡ handed
      go true = refl
      go false = refl

-- a change that a desk sees, accepted: each mark that reads the changed file is judged from the joined set as it then stands,
-- and every other comes back as handed in; of any handed marks, right or wrong
module _ (g : Gate) (desk shared : List ℕ) (k : ℕ) (f : File) (room : ℕ) (handed : Marks) where
  pub own-board : desk_fault g.files desk shared (OwnChange k f room) ≡ 0 → (m : ℕ) → m < marks_of g
      → mark_in (desk_answer g desk shared (OwnChange k f room) handed).marks m ≡ cond (reads_file g m k) (mark_at g m (changed (joined_set desk shared) k f)) (mark_in handed m)
  unfolding marks_seen join_after
  own-board e m l = rw (accepted g desk shared (OwnChange k f room) handed e) (any-board g k (changed (joined_set desk shared) k f) handed m l)

  pub calendar-board : desk_fault g.files desk shared (CalendarChange k f room) ≡ 0 → (m : ℕ) → m < marks_of g
      → mark_in (desk_answer g desk shared (CalendarChange k f room) handed).marks m ≡ cond (reads_file g m k) (mark_at g m (changed (joined_set desk shared) k f)) (mark_in handed m)
  unfolding marks_seen join_after
  calendar-board e m l = rw (accepted g desk shared (CalendarChange k f room) handed e) (any-board g k (changed (joined_set desk shared) k f) handed m l)

-- ---- marks that are those of a set, after a change of one of its files
pub changed-full : (g : Gate) (files : ℕ → File) (k : ℕ) (f : File) → changed_marks g k (changed files k f) (full_marks g files) ≡ full_marks g (changed files k f)
unfolding changed_marks full_marks
changed-full g files k f =
    marks-same (marks_of g) (λ m. cond (reads_file g m k) (mark_at g m (changed files k f)) (mark_in (full_marks g files) m)) (λ m. mark_at g m (changed files k f)) right
  where
    right : (m : ℕ) → m < marks_of g → cond (reads_file g m k) (mark_at g m (changed files k f)) (mark_in (full_marks g files) m) ≡ mark_at g m (changed files k f)
    right m l =
        by-test (λ x. x ≡ mark_at g m (changed files k f)) (reads_file g m k) _ _ (λ e. refl) (λ e. full-mark g files m l ∙ sym (mark-keeps g m files k f e))

-- the right marks give the right marks: "Demands 2 and 3 read the joined set"
module _ (g : Gate) (desk shared : List ℕ) (k : ℕ) (f : File) (room : ℕ) where
  pub own-right : desk_fault g.files desk shared (OwnChange k f room) ≡ 0
      → desk_answer g desk shared (OwnChange k f room) (judged_join g desk shared).marks ≡ judged_join g (bundle_of g.files (files_after desk k f)) shared
  unfolding sight_fault marks_seen join_after
  own-right e =
      let p = desk-none g.files desk shared (OwnChange k f room) e in
      let fine : change_fault g.files false desk k f room ≡ 0 = p.1 in
      let new = bundle_of g.files (files_after desk k f) in
      accepted g desk shared (OwnChange k f room) (judged_join g desk shared).marks e
      ∙ ap (λ x. desk_answered 0 (changed_marks g k (changed (joined_set desk shared) k f) x.marks)) (judged g desk shared p.0)
      ∙ ap (desk_answered 0) (changed-full g (joined_set desk shared) k f ∙ full-same g (changed (joined_set desk shared) k f) (joined_set new shared) (own-join g.files desk shared k f room fine))
      ∙ sym (judged g new shared (join-fine g.files new shared (own-joined g.files desk shared k f room fine (join-none g.files desk shared p.0))))

  pub calendar-right : desk_fault g.files desk shared (CalendarChange k f room) ≡ 0
      → desk_answer g desk shared (CalendarChange k f room) (judged_join g desk shared).marks ≡ judged_join g desk (bundle_of g.files (files_after shared k f))
  unfolding sight_fault marks_seen join_after
  calendar-right e =
      let p = desk-none g.files desk shared (CalendarChange k f room) e in
      let fine : change_fault g.files true shared k f room ≡ 0 = p.1 in
      let new = bundle_of g.files (files_after shared k f) in
      accepted g desk shared (CalendarChange k f room) (judged_join g desk shared).marks e
      ∙ ap (λ x. desk_answered 0 (changed_marks g k (changed (joined_set desk shared) k f) x.marks)) (judged g desk shared p.0)
      ∙ ap (desk_answered 0) (changed-full g (joined_set desk shared) k f ∙ full-same g (changed (joined_set desk shared) k f) (joined_set desk new) (calendar-join g.files desk shared k f room fine))
      ∙ sym (judged g desk new (join-fine g.files desk new (calendar-joined g.files desk shared k f room fine (join-none g.files desk shared p.0))))
