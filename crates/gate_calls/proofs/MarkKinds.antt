-- Which kinds the marks can be that a call judges, for any gate whose tables have 64 fields at most. So 99 is no mark of a call.
-- Assumes nothing.
use Prim.Native.Nat.{ℕ, ◌≤◌, ◌<◌}
use mathlib.Core.Path.{◌≡◌, refl, sym, ◌∙◌}
use mathlib.Core.Bool.{true, false, false≢true}
use mathlib.Core.List.{List}
use native.Mathlib.Omega.{arith}
use borrow.Author.Tests.{eqb-true, eq-eqb}
use lib.Dec.{eqb}
use Rattle.json_bytes.proofs.Laws.{by-test}
use Rattle.json_bytes.proofs.FaultKinds.{is_in, In}
use Rattle.parts.specs.Files.{File}
use Rattle.mark_numbers.specs.Marks.{Marks, mark_in, not_judged, fresh_marks}
use Rattle.mark_numbers.proofs.Laws.{mark-of-marks}
use Rattle.bundle_bytes.proofs.Laws.{start-end}
use Rattle.bundle_layout.specs.Bundle.{bundle_fault, file_at, pieces_of, bundle_length}
use Rattle.bundle_layout.specs.Change.{files_after, try_fault, make_fault}
use Rattle.bundle_layout.proofs.Laws.{fault-size, valid-length, try-none, make-none}
use Rattle.table_file.proofs.FaultKinds.{count_of}
use Rattle.gate_marks.specs.Gate.{Gate, marks_of, reads_file}
use Rattle.gate_marks.specs.Marks.{mark_at}
use Rattle.gate_marks.proofs.MarkKinds.{mark_kinds, Small, mark-kinds}
use Rattle.gate_calls.specs.Calls.{Answer, judgement, accepted, answered, tried, change_made}
use Rattle.gate_calls.proofs.Demand3.{full-mark, judged-again}

-- of a gate whose marks have these kinds, where its files are small
pub record Has (g : Gate) (kinds : List ℕ) : Type 0 where
  pub fields-few : (k : ℕ) → k < g.files → count_of (g.expected k).form ≤ 64
  pub not-judged : In kinds 2
  pub marks : (files : ℕ → File) → Small g files → (m : ℕ) → In kinds (mark_at g m files).kind

module _ (g : Gate) (kinds : List ℕ) (has : Has g kinds) where
  -- the files of a bundle are no longer than it
  small-files : (files : ℕ → File) → bundle_length g.files files ≤ 1048576 → Small g files
  unfolding bundle_length pieces_of
  small-files files l =
      record { bytes = λ k h. omega (arith, l, start-end (pieces_of files) k g.files h); fields = has.fields-few }

  abbrev Judged : Answer → ℕ → Type 0
  Judged a m = In kinds (mark_in a.marks m).kind

  pub judged-in : (s : List ℕ) (m : ℕ) → m < marks_of g → Judged (judgement g s) m
  unfolding judgement fresh_marks
  judged-in s m l =
      by-test (λ a. Judged a m) (eqb (bundle_fault g.files s) 0) _ _
      (λ e.
      let none = eqb-true (bundle_fault g.files s) 0 e in
      rw (full-mark g (file_at s) m l) (has.marks (file_at s) (small-files (file_at s) (omega (arith, valid-length g.files s none, fault-size g.files s none))) m))
      (λ e. rw (mark-of-marks (marks_of g) (λ m. not_judged) m l) has.not-judged)

  -- a change judges the marks that read its file
  module _ (s : List ℕ) (k : ℕ) (f : File) (handed : Marks) (m : ℕ) (l : m < marks_of g) (again : reads_file g m k ≡ true) where
    changed-in : (refusal : ℕ) → refusal ≡ 0 → bundle_length g.files (files_after s k f) ≤ 1048576 → Judged (answered g refusal s k f handed) m
    unfolding answered accepted
    changed-in refusal none fits =
        rw (eq-eqb refusal 0 none, judged-again g k (files_after s k f) handed m l again) (has.marks (files_after s k f) (small-files (files_after s k f) fits) m)

    pub tried-in : try_fault g.files s k f ≡ 0 → Judged (tried g s k f handed) m
    unfolding tried
    tried-in e = changed-in (try_fault g.files s k f) e (try-none g.files s k f e).2

    pub made_in : (room : ℕ) → make_fault g.files s k f room ≡ 0 → Judged (change_made g s k f handed room) m
    unfolding change_made
    made_in room e =
        changed-in (make_fault g.files s k f room) e (try-none g.files s k f (make-none g.files s k f room e).0).2

-- ---- any gate has these
module _ (g : Gate) (few : (k : ℕ) → k < g.files → count_of (g.expected k).form ≤ 64) where
  has-kinds : Has g mark_kinds
  has-kinds = record { fields-few = few; not-judged = refl; marks = λ files small m. mark-kinds g files small m }

  pub judged-kinds : (s : List ℕ) (m : ℕ) → m < marks_of g → In mark_kinds (mark_in (judgement g s).marks m).kind
  judged-kinds = judged-in g mark_kinds has-kinds

  pub tried-kinds : (s : List ℕ) (k : ℕ) (f : File) (handed : Marks) (m : ℕ) → m < marks_of g → reads_file g m k ≡ true → try_fault g.files s k f ≡ 0 → In mark_kinds (mark_in (tried g s k f handed).marks m).kind
  tried-kinds = tried-in g mark_kinds has-kinds

  pub made-kinds : (s : List ℕ) (k : ℕ) (f : File) (handed : Marks) (m : ℕ) → m < marks_of g → reads_file g m k ≡ true → (room : ℕ) → make_fault g.files s k f room ≡ 0 → In mark_kinds (mark_in (change_made g s k f handed room).marks m).kind
  made-kinds = made_in g mark_kinds has-kinds

-- a kind that is not among them, as 99, which says that cells have no room, and 16
pub never-in : (kinds : List ℕ) (kind other : ℕ) → In kinds kind → is_in kinds other ≡ false → kind ≡ other → ⊥
never-in kinds kind other h none e = false≢true (sym none ∙ rw e at h)

pub never : (kind other : ℕ) → In mark_kinds kind → is_in mark_kinds other ≡ false → kind ≡ other → ⊥
never = never-in mark_kinds
