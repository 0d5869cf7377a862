-- Two changes of two files, and a change undone, over files and marks wherever they are kept. Bundles, drawers and desks cite
-- these laws. Document 02, order 13.
-- Assumes nothing.
use Prim.Native.Nat.{ℕ, ◌<◌}
use mathlib.Core.Path.{◌≡◌, refl, sym, ap, ◌∙◌}
use mathlib.Core.Bool.{Bool, true, false, cond}
use borrow.Author.Tests.{eqb-true}
use lib.Dec.{eqb}
use Rattle.json_bytes.proofs.Laws.{by-test}
use Rattle.parts.specs.Files.{File}
use Rattle.bundle_bytes.specs.Pieces.{changed}
use Rattle.mark_numbers.specs.declared.Mark.{Mark}
use Rattle.mark_numbers.specs.Marks.{Marks, marks_from, mark_in}
use Rattle.mark_numbers.proofs.Laws.{Long, marks-same, mark-of-marks, marks-again}
use Rattle.gate_marks.specs.Gate.{Gate, marks_of, reads_file}
use Rattle.gate_marks.specs.Marks.{mark_at, full_marks}
use Rattle.gate_marks.proofs.Laws.{mark-same, mark-below, mark-keeps}
use Rattle.gate_calls.specs.Calls.{changed_marks}
use Rattle.gate_calls.proofs.Demand3.{full-mark}
use Rattle.either_first.specs.Undone.{RightFor}

-- ---- files
module _ {A : Type 0} (files : ℕ → A) (i j : ℕ) (f h : A) (apart : i ≡ j → ⊥) where
  -- the files after two changes are the same in either order
  pub files-commute : (k : ℕ) → changed (changed files i f) j h k ≡ changed (changed files j h) i f k
  unfolding changed
  files-commute k = go (eqb k i) (eqb k j) refl refl
    where
      go : (a b : Bool) → eqb k i ≡ a → eqb k j ≡ b → cond b h (cond a f (files k)) ≡ cond a f (cond b h (files k))
      go true true p q = absurd (apart (sym (eqb-true k i p) ∙ eqb-true k j q))
      go true false p q = refl
      go false true p q = refl
      go false false p q = refl

module _ {A : Type 0} (files : ℕ → A) (i : ℕ) (f : A) where
  -- of two changes of one file the second counts
  pub second-counts : (h : A) (k : ℕ) → changed (changed files i f) i h k ≡ changed files i h k
  unfolding changed
  second-counts h k = go (eqb k i)
    where
      go : (a : Bool) → cond a h (cond a f (files k)) ≡ cond a h (files k)
      go true = refl
      go false = refl

  -- putting back what stood there leaves everything as it was
  pub put_back : (k : ℕ) → changed files i (files i) k ≡ files k
  unfolding changed
  put_back k = by-test (λ r. r ≡ files k) (eqb k i) (files i) (files k) (λ e. ap files (sym (eqb-true k i e))) (λ e. refl)

-- ---- marks
module _ (g : Gate) where
  -- marks changed for files that agree as far as the set has files
  pub changed-below : (k : ℕ) (files others : ℕ → File) (handed : Marks) → ((i : ℕ) → i < g.files → files i ≡ others i) → changed_marks g k files handed ≡ changed_marks g k others handed
  unfolding changed_marks
  changed-below k files others handed same =
      marks-same (marks_of g) (λ m. cond (reads_file g m k) (mark_at g m files) (mark_in handed m)) (λ m. cond (reads_file g m k) (mark_at g m others) (mark_in handed m))
      (λ m l. ap (λ x. cond (reads_file g m k) x (mark_in handed m)) (mark-below g m files others same))

  -- a mark after two changes of any handed marks: the later change that it reads judged it
  abbrev after_two : ℕ → ℕ → (ℕ → File) → (ℕ → File) → Marks → ℕ → Mark
  after_two i j files others handed m =
      cond (reads_file g m j) (mark_at g m others) (cond (reads_file g m i) (mark_at g m files) (mark_in handed m))

  two-changes : (i j : ℕ) (files others : ℕ → File) (handed : Marks) → changed_marks g j others (changed_marks g i files handed) ≡ marks_from (marks_of g) (after_two i j files others handed)
  unfolding changed_marks
  two-changes i j files others handed =
      marks-same (marks_of g) (λ m. cond (reads_file g m j) (mark_at g m others) (mark_in (changed_marks g i files handed) m)) (after_two i j files others handed)
      (λ m l. ap (cond (reads_file g m j) (mark_at g m others)) (mark-of-marks (marks_of g) (λ m. cond (reads_file g m i) (mark_at g m files) (mark_in handed m)) m l))

  -- "such changes .. end in one board", from any handed board: each mark that reads one of the two files is judged from the files
  -- as they stand at the end, or from such as differ in a file that it does not read
  module _ (files : ℕ → File) (i j : ℕ) (f h : File) (apart : i ≡ j → ⊥) (handed : Marks) where
    pub marks-commute : changed_marks g j (changed (changed files i f) j h) (changed_marks g i (changed files i f) handed) ≡ changed_marks g i (changed (changed files j h) i f) (changed_marks g j (changed files j h) handed)
    marks-commute =
        two-changes i j (changed files i f) (changed (changed files i f) j h) handed
        ∙ marks-same (marks_of g) (after_two i j (changed files i f) (changed (changed files i f) j h) handed) (after_two j i (changed files j h) (changed (changed files j h) i f) handed) (λ m l. go m (reads_file g m i) (reads_file g m j) refl refl)
        ∙ sym (two-changes j i (changed files j h) (changed (changed files j h) i f) handed)
      where
        same : (m : ℕ) → mark_at g m (changed (changed files i f) j h) ≡ mark_at g m (changed (changed files j h) i f)
        same m = mark-same g m (changed (changed files i f) j h) (changed (changed files j h) i f) (λ k r. files-commute files i j f h apart k)

        go : (m : ℕ) (a b : Bool) → reads_file g m i ≡ a → reads_file g m j ≡ b → cond b (mark_at g m (changed (changed files i f) j h)) (cond a (mark_at g m (changed files i f)) (mark_in handed m)) ≡ cond a (mark_at g m (changed (changed files j h) i f)) (cond b (mark_at g m (changed files j h)) (mark_in handed m))
        go m true true p q = same m
        go m true false p q = sym (mark-keeps g m (changed files i f) j h q) ∙ same m
        go m false true p q = same m ∙ mark-keeps g m (changed files j h) i f p
        go m false false p q = refl

  -- ---- a change undone: what the board then is, whatever was handed in. The marks that read the file are those of the files, and
  -- all others are as they were handed in
  module _ (files : ℕ → File) (i : ℕ) (f : File) (handed : Marks) where
    pub marks-undone : changed_marks g i (changed (changed files i f) i (files i)) (changed_marks g i (changed files i f) handed) ≡ changed_marks g i files handed
    unfolding changed_marks
    marks-undone =
        two-changes i i (changed files i f) (changed (changed files i f) i (files i)) handed
        ∙ marks-same (marks_of g) (after_two i i (changed files i f) (changed (changed files i f) i (files i)) handed) (λ m. cond (reads_file g m i) (mark_at g m files) (mark_in handed m)) (λ m l. go m (reads_file g m i))
      where
        same : (m : ℕ) → mark_at g m (changed (changed files i f) i (files i)) ≡ mark_at g m files
        same m = mark-same g m (changed (changed files i f) i (files i)) files (λ k r. second-counts files i f (files i) k ∙ put_back files i f k)

        go : (m : ℕ) (a : Bool) → cond a (mark_at g m (changed (changed files i f) i (files i))) (cond a (mark_at g m (changed files i f)) (mark_in handed m)) ≡ cond a (mark_at g m files) (mark_in handed m)
        go m true = same m
        go m false = refl

    -- so it is the handed board again exactly if the marks that read the file were those of the files
    pub marks-restored : Long (marks_of g) handed → RightFor g i files handed → changed_marks g i files handed ≡ handed
    unfolding changed_marks
    marks-restored long r =
        marks-same (marks_of g) (λ m. cond (reads_file g m i) (mark_at g m files) (mark_in handed m)) (mark_in handed)
        (λ m l. by-test (λ x. x ≡ mark_in handed m) (reads_file g m i) (mark_at g m files) (mark_in handed m) (λ e. sym (r.right m l e)) (λ e. refl))
        ∙ marks-again (marks_of g) handed long

    pub restored-right : changed_marks g i files handed ≡ handed → RightFor g i files handed
    unfolding changed_marks
    restored-right e =
        record {
          right = λ m l reads. sym (ap (λ x. mark_in x m) e) ∙ mark-of-marks (marks_of g) (λ m. cond (reads_file g m i) (mark_at g m files) (mark_in handed m)) m l ∙ rw reads;
        }

  -- the marks of the files are such
  pub full-right : (files : ℕ → File) (k : ℕ) → RightFor g k files (full_marks g files)
  full-right files k = record { right = λ m l e. full-mark g files m l }

-- ---- the same where the files are read from what a change left behind: `after` is how they stand there, as far as the set has
-- files, after a change of file i to f
module _ (g : Gate) (files : ℕ → File) (i : ℕ) (f : File) (after : ℕ → File) (left : (k : ℕ) → k < g.files → after k ≡ changed files i f k) where
  pub files-then : (j : ℕ) (h : File) (k : ℕ) → k < g.files → changed after j h k ≡ changed (changed files i f) j h k
  unfolding changed
  files-then j h k l = ap (cond (eqb k j) h) (left k l)

  pub marks_then : (j : ℕ) (h : File) (handed : Marks) → changed_marks g j (changed after j h) handed ≡ changed_marks g j (changed (changed files i f) j h) handed
  marks_then j h handed = changed-below g j (changed after j h) (changed (changed files i f) j h) handed (files-then j h)

  -- the change undone
  pub files-back : (k : ℕ) → k < g.files → changed after i (files i) k ≡ files k
  files-back k l = files-then i (files i) k l ∙ second-counts files i f (files i) k ∙ put_back files i f k

  pub marks-back : (handed : Marks) → changed_marks g i (changed after i (files i)) (changed_marks g i (changed files i f) handed) ≡ changed_marks g i files handed
  marks-back handed = marks_then i (files i) (changed_marks g i (changed files i f) handed) ∙ marks-undone g files i f handed

-- two changes, one behind the other in either order
module _ (g : Gate) (files : ℕ → File) (i j : ℕ) (f h : File) (apart : i ≡ j → ⊥) (after other : ℕ → File) (left : (k : ℕ) → k < g.files → after k ≡ changed files i f k) (too : (k : ℕ) → k < g.files → other k ≡ changed files j h k) where
  pub files-either : (k : ℕ) → k < g.files → changed after j h k ≡ changed other i f k
  files-either k l = files-then g files i f after left j h k l ∙ files-commute files i j f h apart k ∙ sym (files-then g files j h other too i f k l)

  pub marks-either : (handed : Marks) → changed_marks g j (changed after j h) (changed_marks g i (changed files i f) handed) ≡ changed_marks g i (changed other i f) (changed_marks g j (changed files j h) handed)
  marks-either handed =
      marks_then g files i f after left j h (changed_marks g i (changed files i f) handed) ∙ marks-commute g files i j f h apart handed
      ∙ sym (marks_then g files j h other too i f (changed_marks g j (changed files j h) handed))
