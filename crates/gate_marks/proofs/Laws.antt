-- What callers cite: a mark is decided by the files that it reads, and stays as it was where another is changed; which files
-- are read; and what stands in the list of cells afterwards.
-- Assumes nothing.
use Prim.Native.Nat.{ℕ, zero, suc, ◌+◌, ◌-◌, ◌*◌, ◌≤◌, ◌<◌}
use mathlib.Core.Path.{◌≡◌, refl, sym, ap, ◌∙◌}
use mathlib.Core.Bool.{Bool, true, false, cond, ◌&&◌, ◌||◌, true≢false}
use mathlib.Core.Logic.{⊎_elim}
use mathlib.Core.List.{List}
use native.Mathlib.Nat.{eq-or-lt_of_le}
use native.Mathlib.Numerals.{add-one}
use native.Mathlib.Omega.{arith}
use borrow.Author.Tests.{lt-ltb, le-ltb, eq-eqb, ltb-true, ltb-false, eqb-true}
use lib.ListN.{length, get_or}
use lib.Dec.{ltb, eqb}
use Rattle.json_bytes.proofs.Laws.{by-test, both_left, both_right}
use Rattle.parts.specs.Files.{File}
use Rattle.bundle_bytes.specs.Pieces.{changed}
use Rattle.bundle_bytes.proofs.Laws.{changed-other}
use Rattle.mark_numbers.specs.declared.Mark.{Mark}
use Rattle.mark_numbers.specs.Marks.{Marks, mark_in, not_judged}
use Rattle.mark_numbers.proofs.Laws.{mark-of-marks}
use Rattle.table_file.specs.File.{Expected, file_of}
use Rattle.rule_shape.specs.declared.Rule.{Rule}
use Rattle.rule_shape.specs.Rule.{first_file_of, second_file_of, reads}
use Rattle.gate_marks.specs.declared.Scope.{Scope}
use Rattle.gate_marks.specs.declared.Scope.TheVariants.{Full}
use Rattle.gate_marks.specs.Gate.{Gate, marks_of, rule_of_mark, mark_reads, reads_file}
use Rattle.gate_marks.specs.Work.{width_of, room_start, cells_in, read_of, cells_before, work_read}
use Rattle.gate_marks.specs.Marks.{file_mark, rule_mark_at, mark_at, full_marks}
use Rattle.gate_marks.specs.Again.{asked, touched, is_touched, new_mark, new_marks, needed_from, needed, is_needed}
use Rattle.gate_marks.proofs.Rooms.{room-grows, work-length, cells-other, cells-read, records-same}
use Rattle.gate_marks.proofs.Reading.{by_last}

-- ---- the files that a mark reads
or-true : (t : Bool) → (t || true) ≡ true
or-true true = refl
or-true false = refl

module _ (r : Rule) where
  reads_first : reads r (first_file_of r) ≡ true
  unfolding reads
  reads_first = rw (eq-eqb (first_file_of r) (first_file_of r) refl)

  reads_second : reads r (second_file_of r) ≡ true
  unfolding reads
  reads_second = rw (eq-eqb (second_file_of r) (second_file_of r) refl) (or-true (eqb (first_file_of r) (second_file_of r)))

module _ (n : ℕ) (rule : ℕ → Rule) (m : ℕ) where
  pub own-reads : m < n → mark_reads n rule m m ≡ true
  unfolding mark_reads
  own-reads l = rw (lt-ltb m n l, eq-eqb m m refl)

  module _ (l : n ≤ m) where
    pub first_reads : mark_reads n rule m (first_file_of (rule (m - n))) ≡ true
    unfolding mark_reads
    first_reads = rw (le-ltb m n l) (reads_first (rule (m - n)))

    pub second_reads : mark_reads n rule m (second_file_of (rule (m - n))) ≡ true
    unfolding mark_reads
    second_reads = rw (le-ltb m n l) (reads_second (rule (m - n)))

-- ---- two marks of one number, each a file's own or that of a rule over files a and b, are the same where these are
pub same-mark : (n m a b : ℕ) (x y u v : Mark) → (m < n → x ≡ y) → (n ≤ m → a < n → b < n → u ≡ v) → cond (ltb m n) x (cond (ltb a n && ltb b n) u not_judged) ≡ cond (ltb m n) y (cond (ltb a n && ltb b n) v not_judged)
same-mark n m a b x y u v own rule = go (ltb m n) refl (ltb a n && ltb b n) refl
  where
    go : (t : Bool) → ltb m n ≡ t → (w : Bool) → (ltb a n && ltb b n) ≡ w → cond t x (cond w u not_judged) ≡ cond t y (cond w v not_judged)
    go true e w f = own (ltb-true m n e)
    go false e true f = rule (ltb-false m n e) (ltb-true a n (both_left (ltb a n) (ltb b n) f)) (ltb-true b n (both_right (ltb a n) (ltb b n) f))
    go false e false f = refl

-- ---- so a mark is decided by the files that it reads, and by those that the set has
module _ (g : Gate) (m : ℕ) (files others : ℕ → File) where
  mark-by : (m < g.files → files m ≡ others m) → (g.files ≤ m → first_file_of (rule_of_mark g m) < g.files → second_file_of (rule_of_mark g m) < g.files → (files (first_file_of (rule_of_mark g m)) ≡ others (first_file_of (rule_of_mark g m))) × (files (second_file_of (rule_of_mark g m)) ≡ others (second_file_of (rule_of_mark g m)))) → mark_at g m files ≡ mark_at g m others
  unfolding mark_at rule_mark_at
  mark-by own both =
      same-mark g.files m (first_file_of (rule_of_mark g m)) (second_file_of (rule_of_mark g m)) _ _ _ _ (λ l. ap (file_mark (g.expected m)) (own l))
      (λ l a b. let same = both l a b in rw (same.0, same.1))

  pub mark-read : ((k : ℕ) → k < g.files → reads_file g m k ≡ true → files k ≡ others k) → mark_at g m files ≡ mark_at g m others
  mark-read same =
      mark-by (λ l. same m l (own-reads g.files g.rule m l))
      (λ l a b. (same _ a (first_reads g.files g.rule m l), same _ b (second_reads g.files g.rule m l)))

  pub mark-same : ((k : ℕ) → reads_file g m k ≡ true → files k ≡ others k) → mark_at g m files ≡ mark_at g m others
  mark-same same = mark-read (λ k _ e. same k e)

  pub mark-below : ((k : ℕ) → k < g.files → files k ≡ others k) → mark_at g m files ≡ mark_at g m others
  mark-below same = mark-read (λ k l _. same k l)

-- and stays as it was where a file is changed that it does not read
pub mark-keeps : (g : Gate) (m : ℕ) (files : ℕ → File) (k : ℕ) (f : File) → reads_file g m k ≡ false → mark_at g m (changed files k f) ≡ mark_at g m files
mark-keeps g m files k f none =
    mark-same g m (changed files k f) files (λ j e. changed-other files k f j (λ q. true≢false (sym e ∙ ap (reads_file g m) q ∙ none)))

-- ---- a full judgement judges every mark, whatever marks were handed in
pub full-marks : (g : Gate) (files : ℕ → File) (handed : Marks) → new_marks g Full files handed ≡ full_marks g files
unfolding new_marks new_mark touched full_marks
full-marks g files handed = refl

-- ---- a file is needed where a mark that is judged reads it
module _ (n : ℕ) (rule : ℕ → Rule) (scope : Scope) (file : ℕ) where
  -- one that is there is found from any mark up to it
  wanted-from : (left at m : ℕ) → at ≤ m → m < at + left → (touched n rule scope m && mark_reads n rule m file) ≡ true → needed_from n rule scope file left at ≡ true
  unfolding needed_from
  wanted-from zero at m l h e = absurd (omega arith)
  wanted-from (suc left) at m l h e =
      ⊎_elim (λ q. let here : (touched n rule scope at && mark_reads n rule at file) ≡ true = rw q e in rw (here, needed_from))
      (λ later. or_later (touched n rule scope at && mark_reads n rule at file) (wanted-from left (suc at) m later (omega arith) e)) (eq-or-lt_of_le l)
    where
      or_later : (t : Bool) {u : Bool} → u ≡ true → (elim t [ true ↦ true | false ↦ u ]) ≡ true
      or_later true e = refl
      or_later false e = e

  -- and one that is found is there
  wanted-some : (left at : ℕ) → needed_from n rule scope file left at ≡ true → (m : ℕ) × (touched n rule scope m ≡ true) × (mark_reads n rule m file ≡ true)
  unfolding needed_from
  wanted-some zero at e = absurd (true≢false (sym e))
  wanted-some (suc left) at e = go (touched n rule scope at && mark_reads n rule at file) refl e (wanted-some left (suc at))
    where
      go : (t : Bool) → (touched n rule scope at && mark_reads n rule at file) ≡ t → (elim t [ true ↦ true | false ↦ needed_from n rule scope file left (suc at) ]) ≡ true → (needed_from n rule scope file left (suc at) ≡ true → (m : ℕ) × (touched n rule scope m ≡ true) × (mark_reads n rule m file ≡ true)) → (m : ℕ) × (touched n rule scope m ≡ true) × (mark_reads n rule m file ≡ true)
      go true q h later = (at, both_left (touched n rule scope at) (mark_reads n rule at file) q, both_right (touched n rule scope at) (mark_reads n rule at file) q)
      go false q h later = later h

  pub needed-by : (count m : ℕ) → m < n + count → touched n rule scope m ≡ true → mark_reads n rule m file ≡ true → needed n count rule scope file ≡ true
  unfolding needed
  needed-by count m l e r = wanted-from (n + count) 0 m (omega arith) (omega arith) (rw (e, r))

-- in a full judgement every file is needed
pub all-needed : (g : Gate) (f : ℕ) → f < g.files → is_needed g Full f ≡ true
unfolding touched
all-needed g f l = needed-by g.files g.rule Full f g.rules f (omega arith) refl (own-reads g.files g.rule f l)

-- ---- where one mark is asked for, it is judged, and so are those of the files that it reads
module _ (g : Gate) (m : ℕ) where
  asked-itself : is_touched g (Scope.Mark m) m ≡ true
  unfolding touched asked
  asked-itself = rw (eq-eqb m m refl)

  asked-own : (k : ℕ) → k < g.files → reads_file g m k ≡ true → is_touched g (Scope.Mark m) k ≡ true
  unfolding touched asked
  asked-own k l e = rw (lt-ltb k g.files l, e) (or-true (eqb k m))

  -- no other file is needed
  own-only : (x k : ℕ) → x < g.files → reads_file g x k ≡ true → x ≡ k
  unfolding mark_reads
  own-only x k l r = eqb-true x k (rw (lt-ltb x g.files l) at r)

  asked-reads : (x k : ℕ) → asked g.files g.rule m x ≡ true → reads_file g x k ≡ true → reads_file g m k ≡ true
  unfolding asked
  asked-reads x k t r = go (eqb x m) refl t
    where
      go : (b : Bool) → eqb x m ≡ b → (b || (ltb x g.files && reads_file g m x)) ≡ true → reads_file g m k ≡ true
      go true q h = rw (eqb-true x m q) at r
      go false q h =
          rw (own-only x k (ltb-true x g.files (both_left (ltb x g.files) (reads_file g m x) h)) r) at (both_right (ltb x g.files) (reads_file g m x) h)

  pub asked-only : (k : ℕ) → is_needed g (Scope.Mark m) k ≡ true → reads_file g m k ≡ true
  unfolding needed touched
  asked-only k e =
      let some = wanted-some g.files g.rule (Scope.Mark m) k (g.files + g.rules) 0 e in
      asked-reads some.0 k some.1 some.2

  module _ (few : m < marks_of g) where
    pub asked-needed : (k : ℕ) → reads_file g m k ≡ true → is_needed g (Scope.Mark m) k ≡ true
    unfolding marks_of
    asked-needed k e = needed-by g.files g.rule (Scope.Mark m) k g.rules m few asked-itself e

    module _ (files : ℕ → File) (handed : Marks) where
      pub asked-mark : mark_in (new_marks g (Scope.Mark m) files handed) m ≡ mark_at g m files
      unfolding new_marks new_mark
      asked-mark = mark-of-marks (marks_of g) (new_mark g (Scope.Mark m) files handed) m few ∙ rw (asked-itself, new_mark)

      pub asked-file : (k : ℕ) → k < g.files → reads_file g m k ≡ true → mark_in (new_marks g (Scope.Mark m) files handed) k ≡ file_mark (g.expected k) (files k)
      unfolding new_marks new_mark mark_at marks_of
      asked-file k l e =
          mark-of-marks (marks_of g) (new_mark g (Scope.Mark m) files handed) k (omega arith) ∙ rw (asked-own k l e, lt-ltb k g.files l, new_mark)

-- ---- what is left in the list of cells
module _ (cleared : Bool) (expected : ℕ → Expected) (needed : ℕ → Bool) (files : ℕ → File) (lent : List ℕ) where
  pub work-long : (n : ℕ) → length (work_read cleared expected needed files n lent) ≡ length lent
  unfolding work_read
  work-long zero = refl
  work-long (suc n) =
      by-test {A = List ℕ} (λ r. length r ≡ length lent) (needed n) _ _ (λ _. work-length expected cleared n (files n) (work_read cleared expected needed files n lent) ∙ work-long n) (λ _. work-long n)

  -- what holds of the cells of a file that is needed, over whatever list it is read, holds of those in its place
  cells-hold : (Q : List ℕ → Type 0) (f : ℕ) → ((work : List ℕ) → length work ≡ length lent → Q (file_of (expected f) (files f) (cells_before cleared expected work f)).cells) → (n : ℕ) → room_start expected n ≤ length lent → f < n → needed f ≡ true → Q (cells_in expected (work_read cleared expected needed files n lent) f)
  unfolding work_read
  cells-hold Q f holds zero room l e = absurd (omega arith)
  cells-hold Q f holds (suc n) room l e =
      let before = work_read cleared expected needed files n lent in
      let least : room_start expected n ≤ length lent = omega (arith, room-grows expected n (suc n) (omega arith)) in
      by_last f n (omega arith) (λ q. let here : needed n ≡ true = rw q at e in rw (q, here, cells-read expected cleared n (files n) before (omega (arith, work-long n, ap (room_start expected) (add-one n)))) (rw q at (holds before (work-long n))))
      (λ h other. by-test (λ r. Q (cells_in expected r f)) (needed n) _ _ (λ _. rw (cells-other expected cleared n (files n) before f other) (cells-hold Q f holds n least h e)) (λ _. cells-hold Q f holds n least h e))

  -- the cells of its records stand there
  pub records-needed : (n f : ℕ) → room_start expected n ≤ length lent → f < n → needed f ≡ true → (i : ℕ) → i < (read_of (expected f) (files f)).read.records * width_of (expected f).form → get_or (cells_in expected (work_read cleared expected needed files n lent) f) i 0 ≡ get_or (read_of (expected f) (files f)).cells i 0
  records-needed n f room l e =
      cells-hold (λ c. (i : ℕ) → i < (read_of (expected f) (files f)).read.records * width_of (expected f).form → get_or c i 0 ≡ get_or (read_of (expected f) (files f)).cells i 0) f
      (λ work long. records-same expected cleared f (files f) work (omega (arith, long, room-grows expected (f + 1) n (omega arith)))) n room l e

  -- and what stood in the place of a file that is not needed is there still
  pub cells-kept : (n f : ℕ) → needed f ≡ false → cells_in expected (work_read cleared expected needed files n lent) f ≡ cells_in expected lent f
  unfolding work_read
  cells-kept zero f e = refl
  cells-kept (suc n) f e =
      by-test (λ r. cells_in expected r f ≡ cells_in expected lent f) (needed n) _ _ (λ t. cells-other expected cleared n (files n) (work_read cleared expected needed files n lent) f (λ q. true≢false (sym t ∙ ap needed (sym q) ∙ e)) ∙ cells-kept n f e) (λ _. cells-kept n f e)

-- read over cells that are 0, all of them are those of the file
pub cells-needed : (expected : ℕ → Expected) (needed : ℕ → Bool) (files : ℕ → File) (lent : List ℕ) (n f : ℕ) → room_start expected n ≤ length lent → f < n → needed f ≡ true → cells_in expected (work_read true expected needed files n lent) f ≡ (read_of (expected f) (files f)).cells
unfolding cells_before read_of
cells-needed expected needed files lent n f room l e =
    cells-hold true expected needed files lent (λ c. c ≡ (read_of (expected f) (files f)).cells) f (λ work long. refl) n room l e

-- of files that are the same, the same
pub work-same : (cleared : Bool) (expected : ℕ → Expected) (needed : ℕ → Bool) (files others : ℕ → File) (lent : List ℕ) (n : ℕ) → ((i : ℕ) → i < n → files i ≡ others i) → work_read cleared expected needed files n lent ≡ work_read cleared expected needed others n lent
unfolding work_read
work-same cleared expected needed files others lent zero same = refl
work-same cleared expected needed files others lent (suc n) same =
    rw (same n (omega arith), work-same cleared expected needed files others lent n (λ i l. same i (omega arith)))
