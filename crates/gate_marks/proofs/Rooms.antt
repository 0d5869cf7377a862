-- Where each file's cells stand in the one list: how many they are, from where to where, and that writing one file's leaves
-- the others' as they were.
-- Assumes nothing.
use Prim.Native.Nat.{ℕ, zero, suc, ◌+◌, ◌-◌, ◌*◌, ◌≤◌, ◌<◌}
use mathlib.Core.Path.{◌≡◌, refl, sym, ap, ◌∙◌}
use mathlib.Core.Bool.{Bool, true, false, cond, ◌&&◌, true≢false}
use mathlib.Core.Logic.{◌⊎◌, inl, inr, ⊎_elim}
use mathlib.Core.List.{List, [], ◌∷◌, ◌++◌, append-nil}
use native.Mathlib.Nat.{eq-or-lt_of_le, le_of_suc-le-suc, min-le_left}
use native.Mathlib.Numerals.{add-one}
use native.Mathlib.Omega.{arith}
use borrow.Author.Tests.{lt-ltb, le-ltb, le-leb, lt-leb, eq-eqb, ne_eqb, ltb-true, ltb-false, leb-true}
use lib.ListN.{length, get_or, set, take, drop, length-take, length-drop, drop_of_length-le}
use lib.Seq.{drop-cons, set_at, append_snoc, get_or-set_same, get_or-set_other, length-take-le}
use lib.Dec.{leb, ltb, eqb}
use Rattle.std.proofs.Common.{replicate}
use Rattle.parts.specs.Part.{part_of}
use Rattle.parts.specs.Files.{File}
use Rattle.parts.proofs.Laws.{part-is}
use Rattle.bundle_bytes.specs.Pieces.{written}
use Rattle.bundle_bytes.proofs.Laws.{written-length, written-part, written-part-before, written-part-behind}
use Rattle.table_rows.specs.Rows.{cell_at, Field, field_count, fields_in}
use Rattle.table_rows.proofs.Laws.{fields-in-length}
use Rattle.table_file.specs.File.{Form, Fixed, Single, Records, Expected, file_of, form_from}
use Rattle.table_file.proofs.Kept.{file-length}
use Rattle.table_file.proofs.FaultKinds.{count_of}
use Rattle.table_file.proofs.Before.{TableAlike, file-alike}
use Rattle.json_bytes.proofs.Laws.{either}
use Rattle.found_marks.specs.Found.{count_in}
use Rattle.found_marks.proofs.Laws.{and-false}
use Rattle.gate_marks.specs.Gate.{expected_in}
use Rattle.gate_marks.specs.Work.{zeros, width_of, room_for, room_of, room_start, cells_in, read_of, cells_before, work_after}
use Rattle.gate_marks.specs.Code.{room_in, rooms_in, Starts}

-- ---- cells that are 0
pub length-zeros : (n : ℕ) → length (zeros n) ≡ n
unfolding zeros
length-zeros zero = refl
length-zeros (suc n) = ap suc (length-zeros n)

zeros-filled : (n : ℕ) → replicate n 0 ≡ zeros n
unfolding zeros
zeros-filled zero = refl
zeros-filled (suc n) = ap (λ l. 0 ∷ l) (zeros-filled n)

pub zeros-are : (n : ℕ) (l : List ℕ) → l ≡ replicate n 0 → l ≡ zeros n
zeros-are n l e = e ∙ zeros-filled n

-- ---- how many cells a file has, by the lent tables
-- of 64 fields at most
pub room_most : (forms fields : List ℕ) (k : ℕ) → room_in forms fields k ≤ 524288
unfolding room_in
room_most forms fields k = go (leb (count_in forms fields k) 64) refl (eqb (cell_at forms 2 k 0) 1)
  where
    go : (few : Bool) → leb (count_in forms fields k) 64 ≡ few → (single : Bool) → cond few (cond single (2 * count_in forms fields k) (8192 * count_in forms fields k)) 0 ≤ 524288
    go true e true = omega (arith, leb-true (count_in forms fields k) 64 e)
    go true e false = omega (arith, leb-true (count_in forms fields k) 64 e)
    go false e single = omega arith

-- by the number of its form and that of its fields
module _ (text : List ℕ) (own : List Field) (n : ℕ) (long : length own ≡ n) where
  width-of-form : (form : ℕ) → width_of (form_from form text own) ≡ 2 * cond (ltb 1 form) 0 n
  unfolding width_of form_from
  width-of-form zero = rw long
  width-of-form (suc zero) = rw long
  width-of-form (suc (suc form)) =
      rw (ne_eqb (suc (suc form)) 0 (λ e. omega arith), ne_eqb (suc (suc form)) 1 (λ e. omega arith), lt-ltb 1 (suc (suc form)) (omega arith))

  room-of-form : (form : ℕ) → room_of (form_from form text own) ≡ cond (leb (cond (ltb 1 form) 0 n) 64) (cond (eqb form 1) (2 * cond (ltb 1 form) 0 n) (8192 * cond (ltb 1 form) 0 n)) 0
  unfolding room_of room_for form_from
  room-of-form zero = rw long (ap (λ x. cond (leb n 64) x 0) (omega arith))
  room-of-form (suc zero) = rw long (ap (λ x. cond (leb n 64) x 0) (omega arith))
  room-of-form (suc (suc form)) =
      rw (ne_eqb (suc (suc form)) 0 (λ e. omega arith), ne_eqb (suc (suc form)) 1 (λ e. omega arith), lt-ltb 1 (suc (suc form)) (omega arith))

module _ (forms fields names fixed : List ℕ) where
  pub width_is : (k : ℕ) → 2 * count_in forms fields k ≡ width_of (expected_in forms fields names fixed k).form
  unfolding expected_in count_in
  width_is k =
      sym (width-of-form fixed (fields_in fields names k) (field_count fields k) (fields-in-length fields names k) (cell_at forms 2 k 0))

  pub room-is : (k : ℕ) → room_in forms fields k ≡ room_of (expected_in forms fields names fixed k).form
  unfolding expected_in room_in count_in
  room-is k =
      sym (room-of-form fixed (fields_in fields names k) (field_count fields k) (fields-in-length fields names k) (cell_at forms 2 k 0))

  pub rooms-are : (k : ℕ) → rooms_in forms fields k ≡ room_start (expected_in forms fields names fixed) k
  unfolding rooms_in room_start
  rooms-are zero = refl
  rooms-are (suc k) = rw (rooms-are k, room-is k)

-- ---- from where to where
apart : (a b : ℕ) → (a ≡ b → ⊥) → (a < b) ⊎ (b < a)
apart a b n = go (ltb a b) refl
  where
    go : (t : Bool) → ltb a b ≡ t → (a < b) ⊎ (b < a)
    go true e = inl (ltb-true a b e)
    go false e = inr (omega (arith, ltb-false a b e))

part_same : (d e : List ℕ) (from to : ℕ) → length d ≡ length e → take (to - from) (drop from d) ≡ take (to - from) (drop from e) → part_of d from to ≡ part_of e from to
unfolding part_of
part_same d e from to p q = rw (p, q)

part-most : (d : List ℕ) (from to : ℕ) → length (part_of d from to) ≤ to - from
unfolding part_of
part-most d from to =
    either (λ (l : List ℕ). length l ≤ to - from) (leb from to && leb to (length d)) _ _ (omega (arith, length-take (to - from) (drop from d), min-le_left (to - from) (length (drop from d)))) (omega arith)

-- two cells a field
pub width-counted : (form : Form) → width_of form ≡ 2 * count_of form
unfolding width_of
width-counted (Fixed text) = refl
width-counted (Single fields) = refl
width-counted (Records fields) = refl

module _ (expected : ℕ → Expected) where
  pub room_next : (k : ℕ) → room_start expected (k + 1) ≡ room_start expected k + room_of (expected k).form
  unfolding room_start
  room_next k = rw (add-one k)

  pub room-grows : (i j : ℕ) → i ≤ j → room_start expected i ≤ room_start expected j
  unfolding room_start
  room-grows i zero l = rw (zero_is i (omega arith)) (omega arith)
    where
      zero_is : (n : ℕ) → n ≤ 0 → n ≡ 0
      zero_is n h = omega arith
  room-grows i (suc j) l =
      ⊎_elim (λ e. rw e (omega arith)) (λ h. omega (arith, room-grows i j (le_of_suc-le-suc h))) (eq-or-lt_of_le l)

  -- what a file is read over is never longer than its room, and just as long where the list is long enough
  pub before-most : (cleared : Bool) (work : List ℕ) (k : ℕ) → length (cells_before cleared expected work k) ≤ room_of (expected k).form
  unfolding cells_before cells_in
  before-most true work k = omega (arith, length-zeros (room_of (expected k).form))
  before-most false work k = omega (arith, part-most work (room_start expected k) (room_start expected (suc k)), room_next k, ap (room_start expected) (add-one k))

  pub before-long : (cleared : Bool) (work : List ℕ) (k : ℕ) → room_start expected (k + 1) ≤ length work → length (cells_before cleared expected work k) ≡ room_of (expected k).form
  unfolding cells_before cells_in
  before-long true work k room = length-zeros (room_of (expected k).form)
  before-long false work k room =
      rw (← add-one k, part-is work (room_start expected k) (room_start expected (k + 1)) (omega (arith, room_next k)) room)
      (length-take-le (room_start expected (k + 1) - room_start expected k) (drop (room_start expected k) work) (omega (arith, length-drop (room_start expected k) work, room_next k)) ∙ omega (arith, room_next k))

  -- file k's cells written in their place
  module _ (cleared : Bool) (k : ℕ) (f : File) (work : List ℕ) where
    abbrev pub cells_now : List ℕ
    cells_now = (file_of (expected k) f (cells_before cleared expected work k)).cells

    now-long : length cells_now ≡ length (cells_before cleared expected work k)
    now-long = file-length (expected k) f (cells_before cleared expected work k)

    pub work-length : length (work_after cleared expected k f work) ≡ length work
    unfolding work_after
    work-length = written-length work (room_start expected k) cells_now

    -- another file's are as they were
    pub cells-other : (j : ℕ) → (j ≡ k → ⊥) → cells_in expected (work_after cleared expected k f work) j ≡ cells_in expected work j
    unfolding work_after cells_in
    cells-other j n =
        let v = cells_now in
        let at = room_start expected k in
        part_same (written work at v) work (room_start expected j) (room_start expected (suc j)) (written-length work at v) (⊎_elim
        (λ l. written-part-before work at v (room_start expected j) (room_start expected (suc j) - room_start expected j) (omega (arith, room-grows j (suc j) (omega arith), room-grows (suc j) k l)))
        (λ l. written-part-behind work at v (room_start expected j) (room_start expected (suc j) - room_start expected j) (omega (arith, now-long, before-most cleared work k, room_next k, ap (room_start expected) (add-one k), room-grows (suc k) j l))) (apart j k n))

    -- and its own are there, where the list is long enough
    pub cells-read : room_start expected (k + 1) ≤ length work → cells_in expected (work_after cleared expected k f work) k ≡ cells_now
    unfolding cells_in work_after
    cells-read long = rw (← add-one k) (go cells_now (now-long ∙ before-long cleared work k long))
      where
        go : (v : List ℕ) → length v ≡ room_of (expected k).form → part_of (written work (room_start expected k) v) (room_start expected k) (room_start expected (k + 1)) ≡ v
        go v e =
            let size : room_start expected (k + 1) - room_start expected k ≡ length v = omega (arith, room_next k) in
            part-is (written work (room_start expected k) v) (room_start expected k) (room_start expected (k + 1)) (omega (arith, room_next k)) (omega (arith, written-length work (room_start expected k) v))
            ∙ rw size (written-part work (room_start expected k) v (omega (arith, room_next k)))

    -- read over other cells of that length, its mark and its records are the same, and so are the records' cells
    read_alike : room_start expected (k + 1) ≤ length work → TableAlike (2 * count_of (expected k).form) (file_of (expected k) f (cells_before cleared expected work k)) (read_of (expected k) f)
    unfolding read_of
    read_alike long =
        file-alike (expected k) f (cells_before cleared expected work k) (zeros (room_of (expected k).form)) (before-long cleared work k long ∙ sym (length-zeros (room_of (expected k).form)))

    pub read_same : room_start expected (k + 1) ≤ length work → (file_of (expected k) f (cells_before cleared expected work k)).read ≡ (read_of (expected k) f).read
    read_same long = (read_alike long).same_read

    pub records-same : room_start expected (k + 1) ≤ length work → (i : ℕ) → i < (read_of (expected k) f).read.records * width_of (expected k).form → get_or cells_now i 0 ≡ get_or (read_of (expected k) f).cells i 0
    records-same long i l =
        (read_alike long).same-cells.front i (rw (read_same long, ← width-counted (expected k).form) l)

-- ---- as the code adds them up, within a limit
module _ (forms fields : List ℕ) where
  pub rooms-next : (k start room : ℕ) → start ≡ rooms_in forms fields k → room ≡ room_in forms fields k → start + room ≡ rooms_in forms fields (k + 1)
  unfolding rooms_in
  rooms-next k start room e f = rw (add-one k, e, f)

  rooms-grow : (i j : ℕ) → i ≤ j → rooms_in forms fields i ≤ rooms_in forms fields j
  rooms-grow i j l = rw (rooms-are forms fields [] [] i, rooms-are forms fields [] [] j) (room-grows (expected_in forms fields [] []) i j l)

  pub rooms-past : (n k limit start room : ℕ) → k < n → start ≡ rooms_in forms fields k → room ≡ room_in forms fields k → limit < start + room → leb (rooms_in forms fields n) limit ≡ false
  rooms-past n k limit start room l e f h =
      lt-leb (rooms_in forms fields n) limit (omega (arith, rooms-next k start room e f, rooms-grow (k + 1) n (omega arith)))

-- ---- the list of starts, the first and one more put down
pub starts_first : (start : ℕ → ℕ) (starts : List ℕ) → start 0 ≡ 0 → 0 < length starts → Starts start 0 (set starts 0 0)
starts_first start starts e l =
    record {
      at = λ j m.
          let none : j ≡ 0 = omega arith in
          rw none (get_or-set_same starts 0 0 0 l ∙ sym e);
    }

pub starts_more : (start : ℕ → ℕ) (k x : ℕ) (starts : List ℕ) → Starts start k starts → k + 1 < length starts → x ≡ start (k + 1) → Starts start (k + 1) (set starts (k + 1) x)
starts_more start k x starts so_far l e =
    record {
      at = λ j m.
          ⊎_elim (λ q. rw q (get_or-set_same starts (k + 1) x 0 l ∙ e)) (λ h. get_or-set_other starts (k + 1) j x 0 (λ q. omega arith) ∙ so_far.at j (omega arith)) (eq-or-lt_of_le m);
    }

-- without room nothing is said of the list
pub unstarted : (start : ℕ → ℕ) (n limit : ℕ) (starts : List ℕ) → leb (start n) limit ≡ false → (false ≡ leb (start n) limit) × (false ≡ true → Starts start n starts)
unstarted start n limit starts e = (sym e, λ q. absurd (true≢false (sym q)))

pub started : (start : ℕ → ℕ) (n limit : ℕ) (starts : List ℕ) (k last : ℕ) → k ≡ n → last ≡ start k → last ≤ limit → Starts start k starts → (true ≡ leb (start n) limit) × (true ≡ true → Starts start n starts)
started start n limit starts k last e is l are =
    (sym (le-leb (start n) limit (omega (arith, ap start e))), λ _. record { at = λ j m. are.at j (omega arith) })

-- in such a list a file's cells end behind their start, and within any list that is long enough
module _ (expected : ℕ → Expected) (n : ℕ) (starts : List ℕ) (k : ℕ) (are : Starts (room_start expected) n starts) (l : k < n) where
  pub starts-order : get_or starts k 0 ≤ get_or starts (k + 1) 0
  starts-order = rw (are.at k (omega arith), are.at (k + 1) (omega arith)) (room-grows expected k (k + 1) (omega arith))

  pub starts-within : (room : ℕ) → room_start expected n ≤ room → get_or starts (k + 1) 0 ≤ room
  starts-within room h = rw (are.at (k + 1) (omega arith)) (omega (arith, room-grows expected (k + 1) n (omega arith)))

-- the same starts and the same room, by what the files are expected to be
module _ (forms fields names fixed : List ℕ) (n : ℕ) where
  pub starts-are : {starts : List ℕ} → Starts (rooms_in forms fields) n starts → Starts (room_start (expected_in forms fields names fixed)) n starts
  starts-are are = record { at = λ k l. are.at k l ∙ rooms-are forms fields names fixed k }

  pub room_by : (limit : ℕ) {t : Bool} → t ≡ leb (rooms_in forms fields n) limit → (b : Bool) → t ≡ b → leb (room_start (expected_in forms fields names fixed) n) limit ≡ b
  room_by limit t-is b e = rw (← rooms-are forms fields names fixed n, ← t-is) e

  pub room-enough : (limit : ℕ) {t : Bool} → t ≡ leb (rooms_in forms fields n) limit → t ≡ true → room_start (expected_in forms fields names fixed) n ≤ limit
  room-enough limit t-is e = leb-true _ limit (room_by limit t-is true e)

-- ---- one file's cells, as the code takes them from the list: the names and the fixed text make no difference
pub cells-by : (forms fields names fixed work : List ℕ) (k : ℕ) → cells_in (expected_in forms fields [] []) work k ≡ cells_in (expected_in forms fields names fixed) work k
unfolding cells_in
cells-by forms fields names fixed work k = rw (same k, same (suc k))
  where
    same : (j : ℕ) → room_start (expected_in forms fields [] []) j ≡ room_start (expected_in forms fields names fixed) j
    same j = sym (rooms-are forms fields [] [] j) ∙ rooms-are forms fields names fixed j

module _ (forms fields work : List ℕ) (k : ℕ) where
  pub cells-past : 32 ≤ k → [] ≡ cond (ltb k 32) (cells_in (expected_in forms fields [] []) work k) []
  cells-past l = rw (le-ltb k 32 l)

  module _ (few : k < 32) where
    -- they end past the end of the list
    pub cells-short : {t : Bool} → t ≡ leb (rooms_in forms fields (k + 1)) (length work) → t ≡ false → [] ≡ cond (ltb k 32) (cells_in (expected_in forms fields [] []) work k) []
    unfolding cells_in part_of
    cells-short t-is e =
        let past : leb (room_start (expected_in forms fields [] []) (suc k)) (length work) ≡ false = rw add-one at (room_by forms fields [] [] (k + 1) (length work) t-is false e) in
        rw (lt-ltb k 32 few, past, and-false (leb (room_start (expected_in forms fields [] []) k) (room_start (expected_in forms fields [] []) (suc k))))

    -- they stand from one start up to the next
    pub cells-found : (starts : List ℕ) → Starts (rooms_in forms fields) (k + 1) starts → {r : List ℕ} → r ≡ part_of work (get_or starts k 0) (get_or starts (k + 1) 0) → r ≡ cond (ltb k 32) (cells_in (expected_in forms fields [] []) work k) []
    unfolding cells_in
    cells-found starts are r-is =
        r-is ∙ rw (are.at k (omega arith), are.at (k + 1) (omega arith), rooms-are forms fields [] [] k, rooms-are forms fields [] [] (k + 1), lt-ltb k 32 few, add-one k)
