-- The entries of files, as numbers in a workspace: one file's, and those of one after the other.
-- Assumes nothing.
use Prim.Native.Nat.{ℕ, suc, ◌+◌, ◌-◌, ◌*◌, ◌≤◌, ◌<◌}
use mathlib.Core.Path.{◌≡◌, refl, sym, ap, ◌∙◌}
use mathlib.Core.Bool.{Bool, true, false, cond, not, ◌&&◌}
use mathlib.Core.List.{List, [], ◌∷◌, ◌++◌, append-nil}
use native.Mathlib.Nat.{zero-add}
use native.Mathlib.Numerals.{add-one}
use native.Mathlib.Omega.{arith}
use borrow.Author.Tests.{eq-eqb, ne_eqb, eqb-true, eqb-false, le-leb}
use lib.ListN.{length, take, drop, length-append}
use lib.Seq.{length-take-le}
use lib.Dec.{eqb, leb}
use Rattle.parts.specs.Part.{part_of}
use Rattle.parts.specs.Files.{File, Left, Given, is_present, bytes_of, new_file}
use Rattle.parts.proofs.Laws.{part-is}
use Rattle.bundle_layout.specs.Bundle.{is_omitted, part_at, file_at}
use Rattle.bundle_bytes.specs.Pieces.{written}
use Rattle.bundle_bytes.proofs.Laws.{written-fits, written-length, written-part}
use Rattle.table_file.specs.declared.FileRead.{FileRead}
use Rattle.table_file.specs.File.{Expected, file_of}
use Rattle.table_file.proofs.Kept.{file-length, file-records}
use Rattle.entries.specs.Entries.{entries_of}
use Rattle.entries.specs.Flat.{flat_of, listed_in}
use Rattle.entries.proofs.Flat.{written-nothing}
use Rattle.entries.proofs.Laws.{entries-long, entries-any, fits}
use Rattle.gate_marks.specs.Work.{zeros, width_of, room_of, read_of}
use Rattle.gate_marks.specs.Marks.{mark_read, file_mark, table_of}
use Rattle.gate_marks.proofs.Rooms.{length-zeros}
use Rattle.set_entries.specs.Entries.{key_field, file_entries, entries_up_to}
use Rattle.set_entries.specs.Work.{file_listed, listed_up_to}

take_none : (l : List ℕ) → take 0 l ≡ []
take_none [] = refl
take_none (x ∷ l) = refl

file-again : (f : File) → new_file (is_present f) (bytes_of f) ≡ f
unfolding new_file is_present bytes_of
file-again Left = refl
file-again (Given bytes) = refl

pub there-is : (s : List ℕ) (k : ℕ) → not (is_omitted s k) ≡ is_present (file_at s k)
unfolding file_at is_present
there-is s k = go (is_omitted s k)
  where
    go : (t : Bool) → not t ≡ is_present (cond t Left (Given (part_at s k)))
    go true = refl
    go false = refl

-- ---- the field of a file's key
module _ (file : ℕ) where
  pub outline-field : file ≡ 15 → 1 ≡ key_field file
  unfolding key_field
  outline-field e = rw (eq-eqb file 15 e)

  pub first_field : (file ≡ 15 → ⊥) → 0 ≡ key_field file
  unfolding key_field
  first_field n = rw (ne_eqb file 15 n)

  pub few-fields : key_field file < 64
  unfolding key_field
  few-fields = go (eqb file 15)
    where
      go : (t : Bool) → cond t 1 0 < 64
      go true = omega arith
      go false = omega arith

-- ---- one file
module _ (e : Expected) (f : File) where
  few-records : (read_of e f).read.records ≤ 4096
  unfolding read_of
  few-records = file-records e f (zeros (room_of e.form))

  pub cells-long : length (read_of e f).cells ≡ room_of e.form
  unfolding read_of
  cells-long = file-length e f (zeros (room_of e.form)) ∙ length-zeros (room_of e.form)

-- with its key in field k
module _ (k : ℕ) (e : Expected) (f : File) where
  unreadable : ((read_of e f).read.kind ≡ 0 → ⊥) → file_entries k e f ≡ []
  unfolding file_entries file_mark mark_read
  unreadable n = rw (ne_eqb (read_of e f).read.kind 0 n)

  readable : (read_of e f).read.kind ≡ 0 → file_entries k e f ≡ entries_of (table_of e f) k (read_of e f).read.records
  unfolding file_entries file_mark mark_read table_of
  readable z = rw (eq-eqb (read_of e f).read.kind 0 z)

  pub few-entries : length (file_entries k e f) ≤ 4096
  few-entries = go (eqb (read_of e f).read.kind 0) refl
    where
      go : (t : Bool) → eqb (read_of e f).read.kind 0 ≡ t → length (file_entries k e f) ≤ 4096
      go true q = omega (arith, few-records e f, ap length (readable (eqb-true _ 0 q)) ∙ entries-long (table_of e f) k (read_of e f).read.records)
      go false q = omega (arith, ap length (unreadable (eqb-false _ 0 q)))

  pub listed-long : (at : ℕ) (work : List ℕ) → length (file_listed k e f at work) ≡ length work
  unfolding file_listed
  listed-long at work = written-length (written work 0 (read_of e f).cells) at (flat_of (file_entries k e f)) ∙ written-length work 0 (read_of e f).cells

  -- read into the front of a workspace
  module _ (there : Bool) (s : List ℕ) (there-is : there ≡ is_present f) (s-is : s ≡ bytes_of f) (room : ℕ) (room-is : room ≡ room_of e.form) (work : List ℕ) (room_fits : room ≤ length work)
      (read : FileRead) (last : List ℕ) (read_is : read ≡ (file_of e (new_file there s) (zeros (length (take room work)))).read) (last-is : last ≡ (file_of e (new_file there s) (zeros (length (take room work)))).cells) where
    same : file_of e (new_file there s) (zeros (length (take room work))) ≡ read_of e f
    unfolding read_of
    same = rw (there-is, s-is, file-again f, length-take-le room work room_fits, room-is)

    read_same : read ≡ (read_of e f).read
    read_same = read_is ∙ ap (λ t. t.read) same

    long : length (read_of e f).cells ≡ room
    long = cells-long e f ∙ sym room-is

    front : last ++ drop room work ≡ written work 0 (read_of e f).cells
    front =
        let is : last ≡ (read_of e f).cells = last-is ∙ ap (λ t. t.cells) same in
        let whole : take 0 work ++ (read_of e f).cells ++ drop (0 + length (read_of e f).cells) work ≡ (read_of e f).cells ++ drop room work = rw (long, zero-add room, take_none work) in
        rw is (sym (written-fits work 0 (read_of e f).cells (omega (arith, long)) ∙ whole))

    -- unreadable: no entries
    pub none-listed : (read.kind ≡ 0 → ⊥) → (at : ℕ) → ((0 ≡ length (file_entries k e f)) × (0 ≤ 4096)) × (last ++ drop room work ≡ file_listed k e f at work)
    unfolding file_listed flat_of
    none-listed n at =
        let none : file_entries k e f ≡ [] = unreadable (λ z. n (ap (λ (x : FileRead). x.kind) read_same ∙ z)) in
        ((sym (ap length none), omega arith), front ∙ sym (written-nothing (written work 0 (read_of e f).cells) at) ∙ rw none)

    -- readable: those of its table
    module _ (holds : read.kind ≡ 0) (width : ℕ) (width_is : width ≡ width_of e.form) (at : ℕ) (behind : room ≤ at) (enough : at + 16384 ≤ length work) (few-fields : k < 64) where
      abbrev now-read : List ℕ
      now-read = last ++ drop room work

      now-long : length now-read ≡ length work
      now-long = ap length front ∙ written-length work 0 (read_of e f).cells

      part-read : part_of now-read 0 room ≡ (read_of e f).cells
      part-read =
          let size : room - 0 ≡ length (read_of e f).cells = omega (arith, long) in
          part-is now-read 0 room (omega arith) (omega (arith, now-long)) ∙ ap (λ w. take (room - 0) (drop 0 w)) front ∙ ap (λ m. take m (drop 0 (written work 0 (read_of e f).cells))) size ∙ written-part work 0 (read_of e f).cells (omega (arith, long))

      entries-are : listed_in s now-read 0 room width k read.records at ≡ file_entries k e f
      unfolding table_of
      entries-are =
          let n = (read_of e f).read.records in
          let records-are : read.records ≡ n = ap (λ (x : FileRead). x.records) read_same in
          fits s now-read 0 room width k read.records at (omega arith) behind (omega (arith, now-long)) few-fields (omega (arith, few-records e f))
          ∙ rw (records-are, part-read, s-is, width_is) (entries-any (bytes_of f) (read_of e f).cells (width_of e.form) n k n)
          ∙ sym (readable (ap (λ (x : FileRead). x.kind) (sym read_same) ∙ holds))

      pub all_listed : {field r : ℕ} {work' : List ℕ} → field ≡ k → r ≡ length (listed_in s now-read 0 room width field read.records at) → work' ≡ written now-read at (flat_of (listed_in s now-read 0 room width field read.records at))
          → ((r ≡ length (file_entries k e f)) × (r ≤ 4096)) × (work' ≡ file_listed k e f at work)
      unfolding file_listed
      all_listed field_is r-is work-is =
          let count-is : _ ≡ length (file_entries k e f) = r-is ∙ rw field_is (ap length entries-are) in
          ((count-is, omega (arith, few-entries, count-is)), work-is ∙ rw (field_is, entries-are, front))

-- ---- files one after the other
module _ (expected : ℕ → Expected) (needed : ℕ → Bool) (files : ℕ → File) where
  abbrev so-many : ℕ → ℕ
  so-many n = length (entries_up_to expected needed files n)

  module _ (n : ℕ) where
    pub entries-skip : needed (4 + n) ≡ false → entries_up_to expected needed files (suc n) ≡ entries_up_to expected needed files n
    unfolding entries_up_to
    entries-skip q = rw q (append-nil (entries_up_to expected needed files n))

    pub entries-more : needed (4 + n) ≡ true → entries_up_to expected needed files (suc n) ≡ entries_up_to expected needed files n ++ file_entries (key_field (4 + n)) (expected (4 + n)) (files (4 + n))
    unfolding entries_up_to
    entries-more q = rw q

  -- what the loop keeps
  pub record Listing (base : ℕ) (lent : List ℕ) (i : ℕ) (work : List ℕ) (count : ℕ) : Type 0 where
    pub work-is : work ≡ listed_up_to expected needed files base i lent
    pub count-is : count ≡ so-many i
    pub few : count ≤ 4096 * i
    pub work-long : length work ≡ length lent

  pub listing-starts : (base : ℕ) (lent : List ℕ) → Listing base lent 0 lent 0
  unfolding listed_up_to entries_up_to
  listing-starts base lent = record { work-is = refl; count-is = refl; few = omega arith; work-long = refl }

  module _ {base : ℕ} {lent : List ℕ} {i : ℕ} {work : List ℕ} {count : ℕ} (so_far : Listing base lent i work count) {t : Bool} (t-is : t ≡ needed (4 + i)) where
    pub listing-skips : t ≡ false → Listing base lent (i + 1) work count
    unfolding listed_up_to
    listing-skips e =
        let q : needed (4 + i) ≡ false = sym t-is ∙ e in
        record {
          work-is = so_far.work-is ∙ rw (add-one i, q);
          count-is = so_far.count-is ∙ rw (add-one i) (sym (ap length (entries-skip i q)));
          few = omega (arith, so_far.few);
          work-long = so_far.work-long;
        }

    pub listing-goes-on : t ≡ true → {at : ℕ} → at ≡ base + 4 * count → {more : ℕ} {last : List ℕ} → ((more ≡ length (file_entries (key_field (4 + i)) (expected (4 + i)) (files (4 + i)))) × (more ≤ 4096)) × (last ≡ file_listed (key_field (4 + i)) (expected (4 + i)) (files (4 + i)) at work) → Listing base lent (i + 1) last (count + more)
    unfolding listed_up_to
    listing-goes-on e at-is are =
        let q : needed (4 + i) ≡ true = sym t-is ∙ e in
        record {
          work-is = are.1 ∙ rw (at-is, so_far.work-is, so_far.count-is, add-one i, q);
          count-is = rw (add-one i, so_far.count-is, are.0.0) (sym (ap length (entries-more i q) ∙ length-append (entries_up_to expected needed files i) (file_entries (key_field (4 + i)) (expected (4 + i)) (files (4 + i)))));
          few = omega (arith, so_far.few, are.0.1);
          work-long = ap length are.1 ∙ listed-long (key_field (4 + i)) (expected (4 + i)) (files (4 + i)) _ work ∙ so_far.work-long;
        }

  pub listing-ends : {base : ℕ} {lent : List ℕ} {i : ℕ} {work : List ℕ} {count : ℕ} → Listing base lent i work count → i ≡ 16 → (count ≡ so-many 16) × (work ≡ listed_up_to expected needed files base 16 lent)
  listing-ends so_far e = (so_far.count-is ∙ ap so-many e, so_far.work-is ∙ rw e)

-- whether a file is read, of a gate that has no more files than 32
pub when-few : (n : ℕ) (x : Bool) {t : Bool} → n ≤ 32 → t ≡ (leb n 32 && x) → t ≡ x
when-few n x l e = e ∙ rw (le-leb n 32 l)
