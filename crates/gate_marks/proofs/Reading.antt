-- Files read one after the other, each into its place: what the lists then hold of each needed one, and what became of the
-- lent list of cells.
-- Assumes nothing.
use Prim.Native.Nat.{ℕ, suc, ◌+◌, ◌-◌, ◌≤◌, ◌<◌}
use mathlib.Core.Path.{◌≡◌, refl, sym, ap, ◌∙◌}
use mathlib.Core.Bool.{Bool, true, false, true≢false}
use mathlib.Core.Logic.{⊎_elim}
use mathlib.Core.List.{List, ◌++◌, append_assoc}
use native.Mathlib.Nat.{eq-or-lt_of_le}
use native.Mathlib.Numerals.{add-one}
use native.Mathlib.Omega.{arith}
use lib.ListN.{length, set, take, drop, length-set, length-drop}
use lib.Dec.{eqb}
use lib.Seq.{get_or-set_same, get_or-set_other, drop-drop, length-take-le}
use Rattle.parts.specs.Part.{part_of}
use Rattle.parts.proofs.Laws.{part-is}
use Rattle.parts.specs.Files.{File, is_present, bytes_of, new_file, Left, Given}
use Rattle.bundle_bytes.specs.Pieces.{written}
use Rattle.bundle_bytes.proofs.Laws.{written-fits}
use Rattle.mark_numbers.specs.declared.Mark.{Mark}
use Rattle.mark_numbers.specs.Marks.{Marks, with_mark}
use Rattle.mark_numbers.proofs.Laws.{Long, put-there, put-elsewhere, put-long}
use Rattle.table_rows.specs.Rows.{cell_at, fields_from, rows_after, first_field, field_count, fields_in}
use Rattle.table_rows.proofs.Laws.{fields-of-run}
use Rattle.table_file.specs.declared.FileRead.{FileRead}
use Rattle.table_file.specs.File.{Expected, file_of, expected_from}
use Rattle.table_file.proofs.Kept.{file-length}
use Rattle.gate_marks.specs.Gate.{expected_in}
use Rattle.gate_marks.specs.Work.{zeros, room_of, room_start, cells_in, read_of, cells_before, work_after, work_read}
use Rattle.gate_marks.specs.Marks.{mark_read, file_mark}
use Rattle.gate_marks.specs.Code.{start_cells, ReadTo}
use Rattle.gate_marks.proofs.Rooms.{length-zeros, room_next, room-grows, work-length, cells-other, cells-read, read_same, records-same}

pub by_last : {A : Type 0} (f i : ℕ) → f < i + 1 → (f ≡ i → A) → (f < i → (f ≡ i → ⊥) → A) → A
by_last f i l here before = ⊎_elim here (λ h. before h (λ q. omega arith)) (eq-or-lt_of_le {n = f} {m = i} (omega arith))

-- ---- a file read with the fields of its own rows
module _ (forms fields names fixed : List ℕ) (k : ℕ) (f : File) (form required first count : ℕ) (own cells : List ℕ)
    (form-is : form ≡ cell_at forms 2 k 0) (required-is : required ≡ cell_at forms 2 k 1) (first-is : first ≡ first_field fields k)
    (own_is : own ≡ rows_after fields first) (count-is : count ≡ field_count fields k) (r : FileRead) (last : List ℕ) where
  pub read-over : r ≡ (file_of (expected_from form (eqb required 1) fixed (fields_from own names count 0)) f cells).read → last ≡ (file_of (expected_from form (eqb required 1) fixed (fields_from own names count 0)) f cells).cells
      → (r ≡ (file_of (expected_in forms fields names fixed k) f cells).read) × (last ≡ (file_of (expected_in forms fields names fixed k) f cells).cells)
  unfolding expected_in
  read-over e h = (e ∙ ap (λ t. t.read) same, h ∙ ap (λ t. t.cells) same)
    where
      own-fields : fields_from own names count 0 ≡ fields_in fields names k
      own-fields = rw (own_is, first-is, count-is) (fields-of-run fields names k)

      same : file_of (expected_from form (eqb required 1) fixed (fields_from own names count 0)) f cells ≡ file_of (expected_in forms fields names fixed k) f cells
      same = rw (own-fields, form-is, required-is)

-- into cells that were cleared before, or not
module _ (e : Expected) (f : File) {r : FileRead} {last : List ℕ} where
  pub read-cleared : {cells zeroed : List ℕ} → zeroed ≡ cells → (r ≡ (file_of e f zeroed).read) × (last ≡ (file_of e f zeroed).cells) → (r ≡ (file_of e f cells).read) × (last ≡ (file_of e f cells).cells)
  read-cleared cleared are = (are.0 ∙ ap (λ x. (file_of e f x).read) cleared, are.1 ∙ ap (λ x. (file_of e f x).cells) cleared)

  pub read-either : (t : Bool) (cells : List ℕ) {c : List ℕ} → start_cells t cells ≡ c → (r ≡ (file_of e f c).read) × (last ≡ (file_of e f c).cells) → (r ≡ (file_of e f (start_cells t cells)).read) × (last ≡ (file_of e f (start_cells t cells)).cells)
  read-either t cells is are = rw is are

pub start-cleared : (t : Bool) (cells : List ℕ) → t ≡ true → start_cells t cells ≡ zeros (length cells)
unfolding start_cells
start-cleared t cells e = rw e

pub start-kept : (t : Bool) (cells : List ℕ) → t ≡ false → start_cells t cells ≡ cells
unfolding start_cells
start-kept t cells e = rw e

start-long : (t : Bool) (cells : List ℕ) → length (start_cells t cells) ≡ length cells
unfolding start_cells
start-long true cells = length-zeros (length cells)
start-long false cells = refl

-- ---- from whether it is there and its bytes, into a part of the list
file-again : (f : File) → new_file (is_present f) (bytes_of f) ≡ f
unfolding new_file is_present bytes_of
file-again Left = refl
file-again (Given bytes) = refl

module _ (e : Expected) (f : File) (there : Bool) (bytes : List ℕ) (there-is : there ≡ is_present f) (bytes-are : bytes ≡ bytes_of f) (cleared : Bool) (work : List ℕ) (from to : ℕ) (order : from ≤ to) (fits : to ≤ length work) (r : FileRead) (last : List ℕ)
    (r-is : r ≡ (file_of e (new_file there bytes) (start_cells cleared (take (to - from) (drop from work)))).read)
    (last-is : last ≡ (file_of e (new_file there bytes) (start_cells cleared (take (to - from) (drop from work)))).cells) where
  abbrev before : List ℕ
  before = start_cells cleared (take (to - from) (drop from work))

  same : file_of e (new_file there bytes) before ≡ file_of e f before
  same = rw (there-is, bytes-are, file-again f)

  placed : take from work ++ (last ++ drop (to - from) (drop from work)) ≡ written work from (file_of e f before).cells
  placed = rw (← cells_same, written-fits work from last (omega (arith, long)), append_assoc (take from work) last (drop (from + length last) work), drop-drop (to - from) from work, long)
    where
      cells_same : last ≡ (file_of e f before).cells
      cells_same = last-is ∙ ap (λ t. t.cells) same

      long : length last ≡ to - from
      long = ap length cells_same ∙ file-length e f before ∙ start-long cleared (take (to - from) (drop from work)) ∙ length-take-le (to - from) (drop from work) (omega (arith, length-drop from work))

  pub one-read : (k : ℕ) (own : Marks) (records : List ℕ) {last-own : Marks} {last-records : List ℕ} → {x : Mark} → x ≡ mark_read r → last-own ≡ with_mark own k x → last-records ≡ set records k r.records
      → (take from work ++ (last ++ drop (to - from) (drop from work)) ≡ written work from (file_of e f before).cells) × ((last-own ≡ with_mark own k (mark_read (file_of e f before).read)) × (last-records ≡ set records k (file_of e f before).read.records))
  one-read k own records mark-is own_is records-are =
      let is : r ≡ (file_of e f before).read = r-is ∙ ap (λ t. t.read) same in
      (placed, (own_is ∙ ap (with_mark own k) (mark-is ∙ ap mark_read is), records-are ∙ ap (λ x. set records k x.records) is))

-- ---- what has been read of the first n files
module _ (cleared : Bool) (expected : ℕ → Expected) (needed : ℕ → Bool) (files : ℕ → File) where
  -- a file more of what is left in the list
  module _ (lent : List ℕ) (n : ℕ) where
    work-skips : needed n ≡ false → work_read cleared expected needed files (n + 1) lent ≡ work_read cleared expected needed files n lent
    unfolding work_read
    work-skips e = rw (add-one n, e)

    work-goes-on : needed n ≡ true → work_read cleared expected needed files (n + 1) lent ≡ work_after cleared expected n (files n) (work_read cleared expected needed files n lent)
    unfolding work_read
    work-goes-on e = rw (add-one n, e)

  module _ (work : List ℕ) (own : Marks) (records : List ℕ) where
    read_none : ReadTo 0 expected needed files work own records
    read_none = record { cells_at = λ f l e. absurd (omega arith); mark-at = λ f l e. absurd (omega arith); records-at = λ f l e. absurd (omega arith) }

    module _ (i : ℕ) (read : ReadTo i expected needed files work own records) where
      -- a file that no mark needs is passed over
      read-skip : needed i ≡ false → ReadTo (i + 1) expected needed files work own records
      read-skip none =
          record {
            cells_at = λ f l e. read.cells_at f (before f l e) e;
            mark-at = λ f l e. read.mark-at f (before f l e) e;
            records-at = λ f l e. read.records-at f (before f l e) e;
          }
        where
          before : (f : ℕ) → f < i + 1 → needed f ≡ true → f < i
          before f l e = by_last f i l (λ q. absurd (true≢false (sym e ∙ ap needed q ∙ none))) (λ h n. h)

      -- a file that is read: what stands for each needed one of the files before, then its own
      read-turn : room_start expected (i + 1) ≤ length work → (n : ℕ) → Long n own → i < n → i < length records → ReadTo (i + 1) expected needed files (work_after cleared expected i (files i) work) (with_mark own i (file_mark (expected i) (files i))) (set records i (read_of (expected i) (files i)).read.records)
      read-turn room n long lm lr =
          record {
            cells_at = λ f l e. by_last f i l (λ q. rw (q, cells-read expected cleared i (files i) work room) (records-same expected cleared i (files i) work room)) (λ h o. rw (cells-other expected cleared i (files i) work f o) (read.cells_at f h e));
            mark-at = λ f l e. by_last f i l (λ q. rw q (put-there own i (file_mark (expected i) (files i)) n long lm)) (λ h o. put-elsewhere own i (file_mark (expected i) (files i)) f o ∙ read.mark-at f h e);
            records-at = λ f l e. by_last f i l (λ q. rw q (get_or-set_same records i (read_of (expected i) (files i)).read.records 0 lr)) (λ h o. get_or-set_other records i f (read_of (expected i) (files i)).read.records 0 o ∙ read.records-at f h e);
          }

  -- what the loop keeps: that, what became of the lent list, and that no list has another length
  pub record Reading (n : ℕ) (lent work : List ℕ) (own : Marks) (records : List ℕ) : Type 0 where
    pub read : ReadTo n expected needed files work own records
    pub work-is : work ≡ work_read cleared expected needed files n lent
    pub work-long : length work ≡ length lent
    pub own-long : Long 32 own
    pub records-long : length records ≡ 32

  pub reading-starts : (work : List ℕ) (own : Marks) (records : List ℕ) → Long 32 own → length records ≡ 32 → Reading 0 work work own records
  unfolding work_read
  reading-starts work own records lo lr =
      record { read = read_none work own records; work-is = refl; work-long = refl; own-long = lo; records-long = lr }

  module _ {i : ℕ} {lent work : List ℕ} {own : Marks} {records : List ℕ} (so_far : Reading i lent work own records) {t : Bool} (t-is : t ≡ needed i) where
    pub reading-skips : t ≡ false → Reading (i + 1) lent work own records
    reading-skips e =
        let none : needed i ≡ false = sym t-is ∙ e in
        record {
          read = read-skip work own records i so_far.read none;
          work-is = so_far.work-is ∙ sym (work-skips lent i none);
          work-long = so_far.work-long;
          own-long = so_far.own-long;
          records-long = so_far.records-long;
        }

    module _ (n from to : ℕ) (few : i < n) (most : n ≤ 32) (room : room_start expected n ≤ length lent) (from_is : from ≡ room_start expected i) (to_is : to ≡ room_start expected (i + 1)) where
      here : room_start expected (i + 1) ≤ length work
      here = omega (arith, so_far.work-long, room-grows expected (i + 1) n (omega arith))

      before-is : start_cells cleared (take (to - from) (drop from work)) ≡ cells_before cleared expected work i
      unfolding start_cells cells_before cells_in
      before-is =
          let part : take (to - from) (drop from work) ≡ part_of work (room_start expected i) (room_start expected (suc i)) = rw (from_is, to_is, ← add-one i) (sym (part-is work (room_start expected i) (room_start expected (i + 1)) (omega (arith, room_next expected i)) here)) in
          let size : length (take (to - from) (drop from work)) ≡ room_of (expected i).form = length-take-le (to - from) (drop from work) (omega (arith, length-drop from work, here)) ∙ omega (arith, room_next expected i) in
          rw (size, part)

      pub reading-goes-on : t ≡ true → {last : List ℕ} {last-own : Marks} {last-records : List ℕ} → (last ≡ written work from (file_of (expected i) (files i) (start_cells cleared (take (to - from) (drop from work)))).cells) × ((last-own ≡ with_mark own i (mark_read (file_of (expected i) (files i) (start_cells cleared (take (to - from) (drop from work)))).read)) × (last-records ≡ set records i (file_of (expected i) (files i) (start_cells cleared (take (to - from) (drop from work)))).read.records)) → Reading (i + 1) lent last last-own last-records
      unfolding work_after file_mark
      reading-goes-on e are =
          let read_is : (file_of (expected i) (files i) (start_cells cleared (take (to - from) (drop from work)))).read ≡ (read_of (expected i) (files i)).read = rw before-is (read_same expected cleared i (files i) work here) in
          let last-is : _ ≡ work_after cleared expected i (files i) work = are.0 ∙ rw (before-is, from_is) in
          record {
            read = rw (last-is, are.1.0, are.1.1, read_is) (read-turn work own records i so_far.read here 32 so_far.own-long (omega arith) (omega (arith, so_far.records-long)));
            work-is = last-is ∙ ap (work_after cleared expected i (files i)) so_far.work-is ∙ sym (work-goes-on lent i (sym t-is ∙ e));
            work-long = ap length last-is ∙ work-length expected cleared i (files i) work ∙ so_far.work-long;
            own-long = rw are.1.0 (put-long own i _ 32 so_far.own-long);
            records-long = ap length are.1.1 ∙ length-set records i _ ∙ so_far.records-long;
          }

  pub reading-ends : {i : ℕ} {lent work : List ℕ} {own : Marks} {records : List ℕ} → Reading i lent work own records → (n : ℕ) → i ≡ n → {t : Bool} → cleared ≡ t → ReadTo n expected needed files work own records × (work ≡ work_read t expected needed files n lent)
  reading-ends so_far n e is = (rw e at so_far.read, rw (e, is) at so_far.work-is)
