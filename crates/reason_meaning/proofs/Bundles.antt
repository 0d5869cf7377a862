-- The same of a bundle: the value that is handed back is that part of the file's own bytes; and of document 01's gate, whose
-- rules name fields that their tables have.
-- Assumes nothing.
use Prim.Native.Nat.{ℕ, zero, suc, ◌+◌, ◌-◌, ◌≤◌, ◌<◌}
use mathlib.Core.Path.{◌≡◌, refl, sym, ap, ◌∙◌}
use mathlib.Core.Bool.{Bool, true, false}
use mathlib.Core.List.{List, [], ◌∷◌, map}
use native.Mathlib.Nat.{zero-add, suc-add}
use native.Mathlib.Omega.{arith}
use borrow.Author.Tests.{lt-ltb, eq-eqb, leb-true}
use lib.ListN.{length, get_or, take, drop, length-drop}
use lib.Seq.{take-nil, take-take, drop-drop, length-take-le}
use lib.Dec.{leb}
use Rattle.parts.specs.Part.{part_of}
use Rattle.parts.specs.Files.{bytes_of}
use Rattle.parts.proofs.Laws.{part-is}
use Rattle.table_rows.proofs.Laws.{up_from, each}
use Rattle.table_fields.specs.Fields.{fields_of, tables}
use Rattle.table_file.specs.File.{Expected, expected_from}
use Rattle.rule_shape.specs.Rule.{first_file_of, rule_from}
use Rattle.rule_reason.specs.Reason.{searched_in}
use Rattle.schedule_rules.specs.Rules.{rules}
use Rattle.schedule_rules.proofs.Opens.{open-rows}
use Rattle.rule_reason.specs.declared.Searched.{Searched}
use Rattle.rule_reason.specs.declared.Searched.TheVariants.{In, Nowhere}
use Rattle.table_meaning.specs.Meaning.{◌∈◌, Member}
use Rattle.bundle_layout.specs.Bundle.{bundle_fault, offset_at, length_at, is_omitted, part_at, file_at}
use Rattle.bundle_layout.proofs.Laws.{omitted-file, present-file, omitted-offset, omitted-length, present-offset, end-within, part_length}
use Rattle.reason_answer.specs.declared.Shown.{Shown}
use Rattle.gate_marks.specs.Gate.{Gate, gate_of, marks_of, rule_of_mark}
use Rattle.gate_marks.specs.Marks.{table_of, mark_at}
use Rattle.reason.specs.Reason.{broken_by}
use Rattle.reason.proofs.Told.{rule-files}
use Rattle.reason.proofs.Laws.{shown, reason-broken}
use Rattle.gate_calls.specs.Reasons.{reason_of, shown_part, value_shown}
use Rattle.schedule.specs.Schedule.{due, free, expected_files, schedule}
use Rattle.schedule.proofs.Laws.{files-are, marks-are}
use Rattle.reason_meaning.specs.Explains.{form_fields, ValueOf, IsValue, IsNull, BytesOf, TheValue, Nothing, Explains, fields_end}
use Rattle.reason_meaning.proofs.Explained.{explained}

-- ---- a part of a part
drop-take : (m n : ℕ) (l : List ℕ) → drop m (take (m + n) l) ≡ take n (drop m l)
drop-take zero n l = rw zero-add
drop-take (suc m) n [] = rw (take-nil (suc m + n), take-nil n)
drop-take (suc m) n (x ∷ l) = rw suc-add (drop-take m n l)

module _ (s : List ℕ) (a n x y : ℕ) (order : x ≤ y) (inside : y ≤ n) (fits : a + n ≤ length s) where
  inner : part_of s a (a + n) ≡ take n (drop a s)
  inner =
      let size : a + n - a ≡ n = omega arith in
      part-is s a (a + n) (omega arith) fits ∙ rw size

  inner-long : length (take n (drop a s)) ≡ n
  inner-long = length-take-le n (drop a s) (omega (arith, length-drop a s))

  outer : part_of s (a + x) (a + x + (y - x)) ≡ take (y - x) (drop (a + x) s)
  outer =
      let size : a + x + (y - x) - (a + x) ≡ y - x = omega arith in
      part-is s (a + x) (a + x + (y - x)) (omega arith) (omega arith) ∙ rw size

  part-in-part : part_of (part_of s a (a + n)) x y ≡ part_of s (a + x) (a + x + (y - x))
  part-in-part =
      let rest : x + (n - x) ≡ n = omega arith in
      rw inner (part-is (take n (drop a s)) x y order (omega (arith, inner-long))
      ∙ ap (λ (k : ℕ). take (y - x) (drop x (take k (drop a s)))) (sym rest)
      ∙ ap (take (y - x)) (drop-take x (n - x) (drop a s))
      ∙ take-take (y - x) (n - x) (drop x (drop a s)) (omega arith)
      ∙ ap (take (y - x)) (drop-drop x a s)) ∙ sym outer

no_part : (s : List ℕ) → part_of s 0 (0 + 0) ≡ []
no_part s = part-is s 0 (0 + 0) (omega arith) (omega arith)

-- ---- the bytes of the value that is shown
module _ (members : List Member) (offset k : ℕ) (s bytes : List ℕ) (n : ℕ) (bytes-are : bytes ≡ part_of s offset (offset + n)) (long : length bytes ≡ n) (fits : offset + n ≤ length s) (inside : (y : Member) → y ∈ members → y.end ≤ length bytes) where
  bytes-of : {a b : ℕ} → ValueOf members offset k a b → BytesOf members bytes k (part_of s a (a + b))
  bytes-of (IsValue {name} {start} {end} i l) =
      let same : part_of bytes start end ≡ part_of s (offset + start) (offset + start + (end - start)) = ap (λ (l : List ℕ). part_of l start end) bytes-are ∙ part-in-part s offset n start end (omega arith) (omega (arith, inside _ i)) fits in
      rw (← same) (TheValue i)
  bytes-of (IsNull none) = rw (no_part s) (Nothing none)

-- ---- a file of a bundle is a part of it
module _ (n : ℕ) (s : List ℕ) (fine : bundle_fault n s ≡ 0) (k : ℕ) (l : k < n) where
  file-bytes : bytes_of (file_at s k) ≡ part_of s (offset_at s k) (offset_at s k + length_at s k)
  unfolding bytes_of part_at
  file-bytes = go (is_omitted s k) refl
    where
      go : (t : Bool) → is_omitted s k ≡ t → bytes_of (file_at s k) ≡ part_of s (offset_at s k) (offset_at s k + length_at s k)
      go true e = rw (omitted-file s k e, omitted-offset s k e, omitted-length s k e) (sym (no_part s))
      go false e = rw (present-file s k e)

  file-fits : offset_at s k + length_at s k ≤ length s
  file-fits = go (is_omitted s k) refl
    where
      go : (t : Bool) → is_omitted s k ≡ t → offset_at s k + length_at s k ≤ length s
      go true e = omega (arith, omitted-offset s k e, omitted-length s k e)
      go false e = omega (arith, present-offset n s fine k l e, end-within n s fine k l)

-- ---- what is handed back of a broken rule
broken-value : (s : List ℕ) (searched : Searched) (y : Shown) → value_shown s (broken_by searched y) ≡ shown_part s y
unfolding value_shown broken_by
broken-value s (In file) y = refl
broken-value s Nowhere y = refl

module _ (g : Gate) (s : List ℕ) (fine : bundle_fault g.files s ≡ 0) (m : ℕ) (l : g.files ≤ m) (e : (mark_at g m (file_at s)).kind ≡ 1) where
  abbrev first : ℕ
  first = first_file_of (rule_of_mark g m)

  there : first < g.files
  there = (rule-files g m (file_at s) l (λ z. omega arith)).0

  -- the part of the bundle that is shown is the value's in the file itself
  pub bytes-shown : (y : Shown) (x : Explains g (offset_at s) (file_at s) m y) → BytesOf (x.means.gives x.r x.shows.inside).members (bytes_of (file_at s first)) y.field (shown_part s y)
  unfolding shown_part table_of
  bytes-shown y x =
      bytes-of (x.means.gives x.r x.shows.inside).members (offset_at s first) y.field s (bytes_of (file_at s first)) (length_at s first) (file-bytes g.files s fine first there) (part_length g.files s fine first there) (file-fits g.files s fine first there)
      (λ z i. omega (arith, ((x.means.gives x.r x.shows.inside).within z i).3, (x.means.inside x.r x.shows.inside).1)) x.value

  module _ (h : m < marks_of g) where
    pub broken-told : reason_of g s m ≡ broken_by (searched_in (rule_of_mark g m)) (shown g (offset_at s) (file_at s) m)
    unfolding reason_of
    broken-told = rw (eq-eqb (bundle_fault g.files s) 0 fine, lt-ltb m (marks_of g) h) (reason-broken g (offset_at s) (file_at s) m l e)

    pub value-told : value_shown s (reason_of g s m) ≡ shown_part s (shown g (offset_at s) (file_at s) m)
    value-told = ap (value_shown s) broken-told ∙ broken-value s (searched_in (rule_of_mark g m)) (shown g (offset_at s) (file_at s) m)

-- ---- document 01's gate
abbrev none : Expected
none = expected_from 0 false [] []

fits-at : ℕ → Bool
fits-at i = leb (fields_end (get_or rules i (rule_from [] 0))) (length (form_fields (get_or expected_files (first_file_of (get_or rules i (rule_from [] 0))) none).form))

fits_below : map fits-at (up_from 0 61) ≡ map (λ i. true) (up_from 0 61)
unfolding fits-at up_from fields_end form_fields first_file_of expected_files due free fields_of tables open-rows
fits_below = refl

pub schedule-fits : (m : ℕ) → 20 ≤ m → m < 81 → fields_end (rule_of_mark schedule m) ≤ length (form_fields (schedule.expected (first_file_of (rule_of_mark schedule m))).form)
unfolding schedule gate_of fits-at
schedule-fits m l h = rw files-are (leb-true _ _ (each fits-at (λ i. true) 61 fits_below (m - 20) (omega arith)))

module _ (s : List ℕ) (fine : bundle_fault 20 s ≡ 0) (m : ℕ) (l : 20 ≤ m) (h : m < 81) (e : (mark_at schedule m (file_at s)).kind ≡ 1) where
  abbrev what : Shown
  what = shown schedule (offset_at s) (file_at s) m

  -- of every broken rule of a bundle: what is told, what it means, and the bytes that are handed back
  pub schedule-told : reason_of schedule s m ≡ broken_by (searched_in (rule_of_mark schedule m)) what
  schedule-told = broken-told schedule s (rw files-are fine) m (rw files-are l) e (rw marks-are h)

  pub schedule-explained : Explains schedule (offset_at s) (file_at s) m what
  schedule-explained = explained schedule (offset_at s) (file_at s) m (rw files-are l) e (schedule-fits m l h)

  pub schedule-value : BytesOf (schedule-explained.means.gives schedule-explained.r schedule-explained.shows.inside).members (bytes_of (file_at s (first_file_of (rule_of_mark schedule m)))) what.field (value_shown s (reason_of schedule s m))
  schedule-value =
      rw (value-told schedule s (rw files-are fine) m (rw files-are l) e (rw marks-are h)) (bytes-shown schedule s (rw files-are fine) m (rw files-are l) e what schedule-explained)
