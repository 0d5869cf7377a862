-- The files that keep marks from being judged: found one after the other, counted, and told file by file.
-- Assumes nothing.
use Prim.Native.Nat.{ℕ, suc, ◌+◌, ◌≤◌, ◌<◌}
use mathlib.Core.Path.{◌≡◌, refl, sym, ap, ◌∙◌}
use mathlib.Core.Bool.{Bool, true, false, cond, true≢false}
use mathlib.Core.List.{List, [], ◌∷◌}
use native.Mathlib.Numerals.{add-one}
use native.Mathlib.Omega.{arith}
use borrow.Author.Count.{below_more}
use borrow.Author.Tests.{eq-eqb, ne_eqb}
use lib.ListN.{length, get_or, set, drop, drop_of_length-le}
use lib.Seq.{drop-cons, get_or-set_same, get_or-set_other, ext_get_or}
use lib.Dec.{eqb}
use Rattle.json_bytes.specs.Ascii.{codes}
use Rattle.text_place.specs.Place.{count_where}
use Rattle.bundle_bytes.specs.Pieces.{joined}
use Rattle.bundle_bytes.proofs.Laws.{joined-next}
use Rattle.output.specs.Output.{Output, put}
use Rattle.output.proofs.Puts.{put_then}
use Rattle.mark_numbers.specs.Marks.{Marks, list_of, mark_in}
use Rattle.mark_numbers.specs.declared.Mark.{Mark}
use Rattle.mark_numbers.proofs.Laws.{list_at, list_length}
use Rattle.reason_answer.specs.declared.Reason.{Reason}
use Rattle.reason_answer.specs.declared.Reason.TheVariants.{Refused, Holds, NotJudged, OwnMark, Broken, Missing}
use Rattle.gate_calls.specs.Reasons.{reason_of}
use Rattle.gate_marks.specs.Gate.{Gate}
use Rattle.gate_lists.specs.declared.Which.{Which}
use Rattle.gate_lists.specs.Which.{gate_called}
use Rattle.wording.specs.declared.Slots.{Slots}
use Rattle.wording.specs.Sentences.{sentence_at, keeps_one, keeps_many}
use Rattle.wording.specs.Wording.{filled}
use Rattle.reason_text.specs.Sentence.{file_slots}
use Rattle.reason_text.specs.Text.{keeper_of, keeper_at, keepers_of, kept_line, kept_lines}

-- ---- which file keeps a mark
-- an answer of any other variant names none
pub no-keeper : (none : ℕ) (told : Reason) → ((file : ℕ) → told ≡ NotJudged file → ⊥) → none ≡ keeper_of none told
unfolding keeper_of
no-keeper none (Refused refusal) k = refl
no-keeper none Holds k = refl
no-keeper none (NotJudged file) k = absurd (k file refl)
no-keeper none (OwnMark kind place companion) k = refl
no-keeper none (Broken shown) k = refl
no-keeper none (Missing shown searched) k = refl

module _ (n : ℕ) (told : Reason) (kind : ℕ) {none r : ℕ} (none_is : none ≡ n) where
  pub keeper-asked : kind ≡ 2 → {x : Reason} → x ≡ told → r ≡ keeper_of none x → r ≡ cond (eqb kind 2) (keeper_of n told) n
  keeper-asked e f h = rw (eq-eqb kind 2 e, ← f, ← none_is) h

pub keeper-none : (n : ℕ) (told : Reason) (kind : ℕ) {none : ℕ} → none ≡ n → (kind ≡ 2 → ⊥) → none ≡ cond (eqb kind 2) (keeper_of n told) n
keeper-none n told kind e z = rw (ne_eqb kind 2 z) e

-- of mark m, as the calls give it
pub keeper-is : (g : Gate) (s : List ℕ) (marks : Marks) (m : ℕ) {x : Mark} {r : ℕ} → x ≡ mark_in marks m → r ≡ cond (eqb x.kind 2) (keeper_of g.files (reason_of g s m)) g.files → r ≡ keeper_at g s marks m
unfolding keeper_at
keeper-is g s marks m e h = h ∙ ap (λ (x : Mark). cond (eqb x.kind 2) (keeper_of g.files (reason_of g s m)) g.files) e

-- ---- a list as a loop fills it from the front
module _ (f : ℕ → ℕ) where
  pub stored : (l : List ℕ) (i v : ℕ) → ((j : ℕ) → j < i → get_or l j 0 ≡ f j) → i < length l → v ≡ f i → (j : ℕ) → j < i + 1 → get_or (set l i v) j 0 ≡ f j
  stored l i v h b e =
      below_more (λ k. get_or (set l i v) k 0 ≡ f k) i (λ k lt. get_or-set_other l i k v 0 (λ q. omega arith) ∙ h k lt) (get_or-set_same l i v 0 b ∙ e)

  pub all-stored : (l : List ℕ) (i n : ℕ) → ((j : ℕ) → j < i → get_or l j 0 ≡ f j) → length l ≤ i → length l ≡ n → l ≡ list_of f n
  all-stored l i n h b e =
      ext_get_or 0 l (list_of f n) (e ∙ sym (list_length f n)) (λ j lt. h j (omega arith) ∙ sym (list_at f n j (omega arith)))

-- ---- how many entries of a list are one number, as a loop goes over it
module _ (keepers : List ℕ) (file : ℕ) where
  abbrev pub counted : List ℕ → ℕ
  counted l = count_where (λ keeper. eqb keeper file) l

  count-cons : (x : ℕ) (l : List ℕ) → counted (x ∷ l) ≡ cond (eqb x file) 1 0 + counted l
  unfolding count_where
  count-cons x l = go (eqb x file)
    where
      go : (t : Bool) → cond t (suc (counted l)) (counted l) ≡ cond t 1 0 + counted l
      go true = omega arith
      go false = omega arith

  pub count_next : (found i one : ℕ) → i < length keepers → one ≡ cond (eqb (get_or keepers i 0) file) 1 0 → found + counted (drop i keepers) ≡ counted keepers → found + one + counted (drop (i + 1) keepers) ≡ counted keepers
  count_next found i one l e h =
      let here : counted (drop i keepers) ≡ one + counted (drop (i + 1) keepers) = rw (drop-cons keepers i 0 l, add-one i, e) (count-cons (get_or keepers i 0) (drop (suc i) keepers)) in
      omega arith

  pub count-end : (found i : ℕ) → length keepers ≤ i → found + counted (drop i keepers) ≡ counted keepers → found ≡ counted keepers
  unfolding count_where
  count-end found i l h = omega (arith, rw (drop_of_length-le keepers {i = i} l) at h)

-- ---- the line of a file that keeps n marks
module _ (which : Which) (file n : ℕ) (o : Output) where
  pub kept-none : n ≡ 0 → o ≡ put o (kept_line which file n)
  unfolding kept_line put
  kept-none z = rw (eq-eqb n 0 z)

  pub kept_put : (n ≡ 0 → ⊥) → {k : ℕ} {slots : Slots} {p q : Output} → k ≡ cond (eqb n 1) keeps_one keeps_many → slots ≡ file_slots file n → p ≡ put o (filled which slots [] (sentence_at k)) → q ≡ put p (10 ∷ []) → q ≡ put o (kept_line which file n)
  unfolding kept_line codes
  kept_put z {k} {slots} e f g h =
      rw (ne_eqb n 0 z, ← e, ← f) (put_then o (filled which slots [] (sentence_at k)) (10 ∷ []) g h)

-- ---- file by file
module _ (which : Which) (keepers : List ℕ) (o : Output) where
  pub keepers-start : o ≡ put o (kept_lines which keepers 0)
  unfolding kept_lines joined put
  keepers-start = refl

  pub keepers-next : (file : ℕ) {n : ℕ} {p q : Output} → n ≡ count_where (λ keeper. eqb keeper file) keepers → p ≡ put o (kept_lines which keepers file) → q ≡ put p (kept_line which file n) → q ≡ put o (kept_lines which keepers (file + 1))
  unfolding kept_lines
  keepers-next file e f h =
      rw (joined-next (λ file. kept_line which file (count_where (λ keeper. eqb keeper file) keepers)) file)
      (put_then o (kept_lines which keepers file) (kept_line which file (count_where (λ keeper. eqb keeper file) keepers)) f (rw e at h))

  pub keepers-end : {file n : ℕ} {p : Output} → file ≡ n → p ≡ put o (kept_lines which keepers file) → p ≡ put o (kept_lines which keepers n)
  keepers-end e h = h ∙ ap (λ k. put o (kept_lines which keepers k)) e

-- ---- all of them, where marks are grouped
module _ (which : Which) (s : List ℕ) (marks : Marks) (o : Output) (grouped : Bool) where
  abbrev kept : List ℕ → List ℕ
  kept keepers = kept_lines which keepers (gate_called which).files

  pub groups_none : grouped ≡ false → o ≡ put o (cond grouped (kept (keepers_of (gate_called which) s marks)) [])
  unfolding put
  groups_none e = go grouped e
    where
      go : (t : Bool) → t ≡ false → o ≡ put o (cond t (kept (keepers_of (gate_called which) s marks)) [])
      go true e = absurd (true≢false e)
      go false e = refl

  pub groups-put : grouped ≡ true → {keepers : List ℕ} {n files : ℕ} → keepers ≡ list_of (keeper_at (gate_called which) s marks) n → n ≡ length marks.kinds → files ≡ (gate_called which).files → {p : Output} → p ≡ put o (kept_lines which keepers files) → p ≡ put o (cond grouped (kept (keepers_of (gate_called which) s marks)) [])
  unfolding keepers_of
  groups-put e {keepers} f l files-are {p} h = go grouped e
    where
      whole : p ≡ put o (kept (list_of (keeper_at (gate_called which) s marks) (length marks.kinds)))
      whole = h ∙ ap (λ n. put o (kept_lines which keepers n)) files-are ∙ ap (λ k. put o (kept k)) (f ∙ ap (list_of (keeper_at (gate_called which) s marks)) l)

      go : (t : Bool) → t ≡ true → p ≡ put o (cond t (kept (list_of (keeper_at (gate_called which) s marks) (length marks.kinds))) [])
      go true e = whole
      go false e = absurd (true≢false (sym e))
