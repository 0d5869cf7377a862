-- The entries' numbers are there, from their place on, whatever is written before it afterwards; and they read back as the entries.
-- Assumes nothing.
use Prim.Native.Nat.{ℕ, zero, suc, ◌+◌, ◌-◌, ◌*◌, ◌≤◌}
use mathlib.Core.Path.{◌≡◌, refl, sym, ap, ◌∙◌}
use mathlib.Core.Bool.{Bool, true, false, cond}
use mathlib.Core.List.{List, [], ◌∷◌, ◌++◌, append_assoc}
use native.Mathlib.Nat.{add-zero}
use native.Mathlib.Numerals.{add-one}
use native.Mathlib.Omega.{arith}
use borrow.Author.Tests.{leb-true}
use lib.ListN.{length, get_or, take, drop, length-append, take-append-drop}
use lib.Seq.{get_or-drop, drop-drop}
use lib.Dec.{leb}
use Rattle.parts.specs.Files.{File}
use Rattle.table_rows.specs.Rows.{Field}
use Rattle.table_file.specs.File.{Form, Fixed, Single, Records, Expected, file_of}
use Rattle.table_file.proofs.Kept.{file-length}
use Rattle.bundle_bytes.specs.Pieces.{written}
use Rattle.bundle_bytes.proofs.Laws.{written-fits, written-length, written-part, written-part-behind}
use Rattle.entries.specs.declared.Entry.{Entry}
use Rattle.entries.specs.Flat.{entry_numbers, flat_of, entry_in, entries_in}
use Rattle.entries.proofs.Flat.{flat-long, flat-join, written_on}
use Rattle.gate_marks.specs.Work.{room_for, room_of, room_start, read_of, cells_before, work_after, work_read}
use Rattle.gate_marks.proofs.Rooms.{room_next, before-most}
use Rattle.set_entries.specs.Entries.{key_field, file_entries, entries_up_to}
use Rattle.set_entries.specs.Work.{file_listed, listed_up_to}
use Rattle.set_entries.proofs.Laws.{cells-long, few-entries, listed-long, entries-skip, entries-more}

-- ---- a file's cells are no more than those of 4,096 records of 64 fields
room-for : (records : ℕ) (fields : List Field) → ((n : ℕ) → n ≤ 64 → records * (2 * n) ≤ 524288) → room_for records fields ≤ 524288
unfolding room_for
room-for records fields bound = go (leb (length fields) 64) refl
  where
    go : (t : Bool) → leb (length fields) 64 ≡ t → cond t (records * (2 * length fields)) 0 ≤ 524288
    go true e = bound (length fields) (leb-true (length fields) 64 e)
    go false e = omega arith

pub form-most : (form : Form) → room_of form ≤ 524288
unfolding room_of
form-most (Fixed text) = omega arith
form-most (Single fields) = room-for 1 fields (λ n l. omega arith)
form-most (Records fields) = room-for 4096 fields (λ n l. omega arith)

-- ---- numbers that stand from a place on
abbrev pub Stands : List ℕ → ℕ → List ℕ → Type 0
Stands w base v = (base + length v ≤ length w) × (take (length v) (drop base w) ≡ v)

-- to write what is there changes nothing
written-there : (w : List ℕ) (base : ℕ) (v : List ℕ) → Stands w base v → written w base v ≡ w
written-there w base v (l, is) =
    written-fits w base v l
    ∙ ap (λ u. take base w ++ u ++ drop (base + length v) w) (sym is)
    ∙ ap (λ u. take base w ++ take (length v) (drop base w) ++ u) (sym (drop-drop (length v) base w))
    ∙ append_assoc (take base w) (take (length v) (drop base w)) (drop (length v) (drop base w))
    ∙ ap (λ u. take base w ++ u) (take-append-drop (length v) (drop base w))
    ∙ take-append-drop base w

-- what is written before them leaves them
stands-behind : (w : List ℕ) (base : ℕ) (v : List ℕ) (at : ℕ) (u : List ℕ) → at + length u ≤ base → Stands w base v → Stands (written w at u) base v
stands-behind w base v at u l (m, is) = (rw (written-length w at u) m, written-part-behind w at u base (length v) l ∙ is)

-- and what is written right behind them goes on with them
stands_on : (w : List ℕ) (base : ℕ) (v u : List ℕ) → base + length v + length u ≤ length w → Stands w base v → Stands (written w (base + length v) u) base (v ++ u)
stands_on w base v u l s =
    let e : written w (base + length v) u ≡ written w base (v ++ u) = ap (λ x. written x (base + length v) u) (sym (written-there w base v s)) ∙ written_on w base v u l in
    let m : base + length (v ++ u) ≤ length w = omega (arith, length-append v u) in
    (rw (e, written-length w base (v ++ u)) m, rw e (written-part w base (v ++ u) m))

-- ---- the entries of files one after the other
module _ (expected : ℕ → Expected) (needed : ℕ → Bool) (files : ℕ → File) (base : ℕ) (lent : List ℕ) (behind : 524288 ≤ base) where
  abbrev es : ℕ → List Entry
  es = entries_up_to expected needed files

  abbrev ws : ℕ → List ℕ
  ws n = listed_up_to expected needed files base n lent

  by-need : (P : List Entry → List ℕ → Type 0) (n : ℕ) → (needed (4 + n) ≡ false → P (es n) (ws n)) → (needed (4 + n) ≡ true → P (es n ++ file_entries (key_field (4 + n)) (expected (4 + n)) (files (4 + n))) (file_listed (key_field (4 + n)) (expected (4 + n)) (files (4 + n)) (base + 4 * length (es n)) (ws n))) → P (es (suc n)) (ws (suc n))
  unfolding listed_up_to
  by-need P n skip more = go (needed (4 + n)) refl
    where
      go : (t : Bool) → needed (4 + n) ≡ t → P (es (suc n)) (cond t (file_listed (key_field (4 + n)) (expected (4 + n)) (files (4 + n)) (base + 4 * length (es n)) (ws n)) (ws n))
      go true q = rw (entries-more expected needed files n q) (more q)
      go false q = rw (entries-skip expected needed files n q) (skip q)

  entries-few : (n : ℕ) → length (es n) ≤ 4096 * n
  unfolding entries_up_to
  entries-few zero = omega arith
  entries-few (suc n) =
      by-need (λ e w. length e ≤ 4096 * suc n) n (λ q. omega (arith, entries-few n))
      (λ q. omega (arith, entries-few n, length-append (es n) (file_entries (key_field (4 + n)) (expected (4 + n)) (files (4 + n))), few-entries (key_field (4 + n)) (expected (4 + n)) (files (4 + n))))

  listed-length : (n : ℕ) → length (ws n) ≡ length lent
  unfolding listed_up_to
  listed-length zero = refl
  listed-length (suc n) =
      by-need (λ e w. length w ≡ length lent) n (λ q. listed-length n) (λ q. listed-long (key_field (4 + n)) (expected (4 + n)) (files (4 + n)) (base + 4 * length (es n)) (ws n) ∙ listed-length n)

  pub stand-listed : (n : ℕ) → base + 16384 * n ≤ length lent → Stands (ws n) base (flat_of (es n))
  unfolding listed_up_to entries_up_to flat_of file_listed
  stand-listed zero l = (omega arith, refl)
  stand-listed (suc n) l =
      by-need (λ e w. Stands w base (flat_of e)) n (λ q. stand-listed n (omega arith))
      (λ q.
      let k = key_field (4 + n) in
      let e = expected (4 + n) in
      let f = files (4 + n) in
      let long : length (flat_of (es n)) ≡ 4 * length (es n) = flat-long (es n) in
      let more : length (flat_of (file_entries k e f)) ≡ 4 * length (file_entries k e f) = flat-long (file_entries k e f) in
      let w = written (ws n) 0 (read_of e f).cells in
      let before : Stands w base (flat_of (es n)) = stands-behind (ws n) base (flat_of (es n)) 0 (read_of e f).cells (omega (arith, cells-long e f, form-most e.form, behind)) (stand-listed n (omega arith)) in
      rw (flat-join (es n) (file_entries k e f), ← long)
      (stands_on w base (flat_of (es n)) (flat_of (file_entries k e f)) (omega (arith, entries-few n, few-entries k e f, long, more, l, written-length (ws n) 0 (read_of e f).cells, listed-length n)) before))

-- ---- reading files into their places leaves what is behind them
module _ (cleared : Bool) (expected : ℕ → Expected) (needed : ℕ → Bool) (files : ℕ → File) (base : ℕ) (v work : List ℕ) where
  pub stand_read : (n : ℕ) → room_start expected n ≤ base → Stands work base v → Stands (work_read cleared expected needed files n work) base v
  unfolding work_read work_after
  stand_read zero l s = s
  stand_read (suc n) l s = go (needed n) (stand_read n (omega (arith, next)) s)
    where
      next : room_start expected (suc n) ≡ room_start expected n + room_of (expected n).form
      next = rw (← add-one n) (room_next expected n)

      now-read : List ℕ
      now-read = work_read cleared expected needed files n work

      cells-most : length (file_of (expected n) (files n) (cells_before cleared expected now-read n)).cells ≤ room_of (expected n).form
      cells-most = rw (file-length (expected n) (files n) (cells_before cleared expected now-read n)) (before-most expected cleared now-read n)

      go : (t : Bool) → Stands now-read base v → Stands (cond t (written now-read (room_start expected n) (file_of (expected n) (files n) (cells_before cleared expected now-read n)).cells) now-read) base v
      go true so_far = stands-behind now-read base v (room_start expected n) (file_of (expected n) (files n) (cells_before cleared expected now-read n)).cells (omega (arith, next, cells-most)) so_far
      go false so_far = so_far

-- ---- they read back as the entries
entries-cons : (w : List ℕ) (at n : ℕ) → entries_in w at (suc n) ≡ entry_in w at ∷ entries_in w (at + 4) n
unfolding entries_in
entries-cons w at zero = ap (λ a. entry_in w a ∷ []) place
  where
    place : at + 4 * 0 ≡ at
    place = omega arith
entries-cons w at (suc n) = ap (λ l. l ++ (entry_in w (at + 4 * suc n) ∷ [])) (entries-cons w at n) ∙ ap (λ a. entry_in w at ∷ (entries_in w (at + 4) n ++ (entry_in w a ∷ []))) place
  where
    place : at + 4 * suc n ≡ at + 4 + 4 * n
    place = omega arith

entry-back : (w : List ℕ) (at : ℕ) (e : Entry) (rest : List ℕ) → drop at w ≡ entry_numbers e ++ rest → entry_in w at ≡ e
unfolding entry_in entry_numbers
entry-back w at e rest is = rw (ap (λ a. get_or w a 0) (sym (add-zero at)) ∙ number 0 e.start refl, number 1 e.length refl, number 2 e.sum refl, number 3 e.«record» refl)
  where
    number : (j x : ℕ) → get_or (e.start ∷ e.length ∷ e.sum ∷ e.«record» ∷ rest) j 0 ≡ x → get_or w (at + j) 0 ≡ x
    number j x q = sym (get_or-drop at w j 0) ∙ ap (λ l. get_or l j 0) is ∙ q

four : (x : Entry) (l : List ℕ) → drop 4 (entry_numbers x ++ l) ≡ l
unfolding entry_numbers
four x l = refl

back_from : (w : List ℕ) (at : ℕ) (es : List Entry) (rest : List ℕ) → drop at w ≡ flat_of es ++ rest → entries_in w at (length es) ≡ es
unfolding entries_in flat_of
back_from w at [] rest is = refl
back_from w at (e ∷ es) rest is =
    let split : drop at w ≡ entry_numbers e ++ (flat_of es ++ rest) = is ∙ append_assoc (entry_numbers e) (flat_of es) rest in
    entries-cons w at (length es) ∙ ap (λ (x : Entry). x ∷ entries_in w (at + 4) (length es)) (entry-back w at e (flat_of es ++ rest) split)
    ∙ ap (λ l. e ∷ l) (back_from w (at + 4) es rest (sym (drop-drop 4 at w) ∙ ap (drop 4) split ∙ four e (flat_of es ++ rest)))

pub entries-back : (w : List ℕ) (at : ℕ) (es : List Entry) → Stands w at (flat_of es) → entries_in w at (length es) ≡ es
entries-back w at es (l, is) =
    back_from w at es (drop (length (flat_of es)) (drop at w)) (sym (take-append-drop (length (flat_of es)) (drop at w)) ∙ ap (λ u. u ++ drop (length (flat_of es)) (drop at w)) is)
