-- Marks judged from what was read, put over those that were handed in, and how the whole then ends.
-- Assumes nothing.
use Prim.Native.Nat.{ℕ, zero, suc, ◌+◌, ◌-◌, ◌*◌, ◌/◌, ◌≤◌, ◌<◌}
use mathlib.Core.Path.{◌≡◌, refl, sym, ap, ◌∙◌}
use mathlib.Core.Bool.{Bool, true, false, cond, ◌&&◌}
use mathlib.Core.List.{List}
use native.Mathlib.Nat.{sub-zero, min-le_left}
use native.Mathlib.Numerals.{add-one}
use native.Mathlib.Omega.{arith}
use borrow.Author.Tests.{le-ltb, le-leb, lt-leb, eq-eqb, ne_eqb, eqb-true, ltb-true, ltb-false}
use lib.ListN.{length, get_or, take, length-take, get_or-eq_default}
use lib.Seq.{get_or-take}
use lib.Dec.{leb, ltb, eqb}
use Rattle.parts.specs.Files.{File, bytes_of}
use Rattle.mark_numbers.specs.declared.Mark.{Mark}
use Rattle.mark_numbers.specs.Marks.{Marks, marks_in, marks_from, mark_in, have_length}
use Rattle.mark_numbers.proofs.Laws.{marks-same}
use Rattle.table_file.specs.File.{Expected}
use Rattle.table_file.proofs.Behind.{behind-kept}
use Rattle.rule_cells.specs.Cells.{table}
use Rattle.rules.specs.declared.Break.{Break}
use Rattle.rules.specs.Judge.{is_judged, mark_of}
use Rattle.rules.proofs.Alike.{rule-alike}
use Rattle.rule_shape.specs.declared.Rule.{Rule}
use Rattle.rule_shape.specs.Rule.{first_file_of, second_file_of, reads, rule_from}
use Rattle.found_marks.specs.Found.{count_in, table_in, rule_mark_in, found_mark}
use Rattle.found_marks.proofs.Laws.{and-false}
use Rattle.gate_marks.specs.declared.Scope.{Scope}
use Rattle.gate_marks.specs.Gate.{Gate, marks_of, rule_of_mark, mark_reads, expected_in, gate_from}
use Rattle.gate_marks.specs.Work.{zeros, width_of, room_of, room_start, cells_in, read_of, work_read}
use Rattle.gate_marks.specs.Marks.{mark_read, file_mark, table_of, rule_mark, rule_mark_at, mark_at}
use Rattle.gate_marks.specs.Again.{touched, is_touched, new_mark, new_marks, needed_from, needed, is_needed, is_cleared, work_judged, can_judge, room_is_there, has_lists, workspace_of, marks_after, work_afterwards}
use Rattle.gate_marks.specs.Code.{rooms_in, Starts, ReadTo, put_mark}
use Rattle.gate_marks.proofs.Rooms.{width_is, width-counted, room_by}
use Rattle.gate_marks.proofs.Laws.{own-reads, first_reads, second_reads, same-mark, needed-by}

-- ---- the search for a mark that is judged and reads a file: what is left of it at mark m
pub wanted-starts : (n : ℕ) (rule : ℕ → Rule) (scope : Scope) (file count rules : ℕ) → count ≡ rules → needed n rules rule scope file ≡ needed_from n rule scope file (n + count - 0) 0
unfolding needed
wanted-starts n rule scope file count rules e = rw (e, sub-zero (n + rules))

module _ (n : ℕ) (rule : ℕ → Rule) (scope : Scope) (file marks m : ℕ) where
  pub wanted-hits : m < marks → (touched n rule scope m && mark_reads n rule m file) ≡ true → needed_from n rule scope file (marks - m) m ≡ true
  unfolding needed_from
  wanted-hits l e =
      let q : marks - m ≡ suc (marks - (m + 1)) = omega arith in
      rw (q, e, needed_from)

  pub wanted-goes-on : m < marks → (touched n rule scope m && mark_reads n rule m file) ≡ false → needed_from n rule scope file (marks - m) m ≡ needed_from n rule scope file (marks - (m + 1)) (m + 1)
  unfolding needed_from
  wanted-goes-on l e =
      let q : marks - m ≡ suc (marks - (m + 1)) = omega arith in
      rw (q, e, needed_from, add-one m)

  pub wanted-ends : marks ≤ m → needed_from n rule scope file (marks - m) m ≡ false
  unfolding needed_from
  wanted-ends l =
      let q : marks - m ≡ 0 = omega arith in
      rw q

-- ---- what a rule finds counts only where both its files hold
judged-same : (first second : ℕ) (b d : Break) → (first ≡ 0 → second ≡ 0 → b ≡ d) → mark_of (is_judged first second) b ≡ mark_of (is_judged first second) d
unfolding is_judged mark_of
judged-same first second b d same = go (eqb first 0) refl (eqb second 0) refl
  where
    go : (t : Bool) → eqb first 0 ≡ t → (u : Bool) → eqb second 0 ≡ u → mark_of (t && u) b ≡ mark_of (t && u) d
    go true e true h = ap (mark_of true) (same (eqb-true first 0 e) (eqb-true second 0 h))
    go true e false h = refl
    go false e u h = refl

take_short : (n : ℕ) (l : List ℕ) → length (take n l) ≤ n
take_short n l = omega (arith, length-take n l, min-le_left n (length l))

-- ---- a file that holds, read over 0: behind its records 0
zero-at : (n i : ℕ) → get_or (zeros n) i 0 ≡ 0
unfolding zeros
zero-at zero i = refl
zero-at (suc n) zero = refl
zero-at (suc n) (suc i) = zero-at n i

zero-behind : (e : Expected) (f : File) → (read_of e f).read.kind ≡ 0 → (i : ℕ) → (read_of e f).read.records * width_of e.form ≤ i → get_or (read_of e f).cells i 0 ≡ 0
unfolding read_of
zero-behind e f z i l =
    behind-kept e f (zeros (room_of e.form)) z i (rw (← width-counted e.form) l) ∙ zero-at (room_of e.form) i

-- ---- a mark judged from what was read is that of the files
module _ (g : Gate) (scope : Scope) (files : ℕ → File) (count : ℕ → ℕ) (widths : (k : ℕ) → 2 * count k ≡ width_of (g.expected k).form)
    (starts work : List ℕ) (own : Marks) (records : List ℕ) (begins : Starts (room_start g.expected) g.files starts)
    (read : ReadTo g.files g.expected (is_needed g scope) files work own records) where
  -- a table as the code hands it on: the cells of its records
  table_is : (k : ℕ) → k < g.files → is_needed g scope k ≡ true → table_in files count starts work records k ≡ table (bytes_of (files k)) (take ((read_of (g.expected k) (files k)).read.records * width_of (g.expected k).form) (cells_in g.expected work k)) (width_of (g.expected k).form) (read_of (g.expected k) (files k)).read.records
  unfolding table_in cells_in
  table_is k l e =
      rw (add-one k, begins.at k (omega arith), begins.at (suc k) l, widths k, read.records-at k l e)

  -- where the file holds, they are at every place those of the file read over 0, as these are 0 behind its records
  cells_are : (k : ℕ) → k < g.files → is_needed g scope k ≡ true → (read_of (g.expected k) (files k)).read.kind ≡ 0 → (i : ℕ) → get_or (take ((read_of (g.expected k) (files k)).read.records * width_of (g.expected k).form) (cells_in g.expected work k)) i 0 ≡ get_or (read_of (g.expected k) (files k)).cells i 0
  cells_are k l e z i = go (ltb i size) refl
    where
      size : ℕ
      size = (read_of (g.expected k) (files k)).read.records * width_of (g.expected k).form

      go : (t : Bool) → ltb i size ≡ t → get_or (take size (cells_in g.expected work k)) i 0 ≡ get_or (read_of (g.expected k) (files k)).cells i 0
      go true h = get_or-take size (cells_in g.expected work k) i 0 (ltb-true i size h) ∙ read.cells_at k l e i (ltb-true i size h)
      go false h =
          get_or-eq_default (take size (cells_in g.expected work k)) 0 (omega (arith, ltb-false i size h, take_short size (cells_in g.expected work k)))
          ∙ sym (zero-behind (g.expected k) (files k) z i (ltb-false i size h))

  module _ (m : ℕ) (few : m < marks_of g) (hit : is_touched g scope m ≡ true) where
    is-needed : (k : ℕ) → mark_reads g.files g.rule m k ≡ true → is_needed g scope k ≡ true
    unfolding marks_of
    is-needed k e = needed-by g.files g.rule scope k g.rules m few hit e

    own_is : m < g.files → mark_in own m ≡ file_mark (g.expected m) (files m)
    own_is l = read.mark-at m l (is-needed m (own-reads g.files g.rule m l))

    -- by its kind a file is readable or not
    kind-is : (k : ℕ) → k < g.files → is_needed g scope k ≡ true → get_or own.kinds k 0 ≡ (read_of (g.expected k) (files k)).read.kind
    unfolding mark_in file_mark mark_read
    kind-is k l e = ap (λ x. x.kind) (read.mark-at k l e)

    rule-is : g.files ≤ m → first_file_of (rule_of_mark g m) < g.files → second_file_of (rule_of_mark g m) < g.files → rule_mark_in g.values g.texts (table_in files count starts work records) own.kinds (rule_of_mark g m) ≡ rule_mark g (rule_of_mark g m) (files (first_file_of (rule_of_mark g m))) (files (second_file_of (rule_of_mark g m)))
    unfolding rule_mark_in rule_mark table_of
    rule-is l a b =
        let first = is-needed (first_file_of (rule_of_mark g m)) (first_reads g.files g.rule m l) in
        let second = is-needed (second_file_of (rule_of_mark g m)) (second_reads g.files g.rule m l) in
        rw (kind-is _ a first, kind-is _ b second, table_is _ a first, table_is _ b second)
        (judged-same (read_of (g.expected (first_file_of (rule_of_mark g m))) (files (first_file_of (rule_of_mark g m)))).read.kind (read_of (g.expected (second_file_of (rule_of_mark g m))) (files (second_file_of (rule_of_mark g m)))).read.kind _ _
        (λ y z. rule-alike g.values g.texts _ _ _ _ _ _ _ _ _ _ (cells_are _ a first y) (cells_are _ b second z) (rule_of_mark g m)))

    found-is : found_mark g.files g.rule g.values g.texts (table_in files count starts work records) own m ≡ mark_at g m files
    unfolding found_mark mark_at rule_mark_at
    found-is = same-mark g.files m (first_file_of (rule_of_mark g m)) (second_file_of (rule_of_mark g m)) _ _ _ _ own_is rule-is

-- ---- marks put over those of the lists
module _ (n : ℕ) (rule : ℕ → Rule) (scope : Scope) (found : ℕ → Mark) (handed : Marks) (m : ℕ) {t : Bool} (t-is : t ≡ touched n rule scope m) where
  pub put-found : t ≡ true → (x : Mark) → x ≡ found m → x ≡ put_mark n rule scope found handed m
  unfolding put_mark
  put-found e x is = rw (← t-is, e) is

  pub put-handed : t ≡ false → mark_in handed m ≡ put_mark n rule scope found handed m
  unfolding put_mark
  put-handed e = rw (← t-is, e)

-- those of a gate, where what is found of each mark that is judged is that of the files
pub put_all : (g : Gate) (scope : Scope) (files : ℕ → File) (found : ℕ → Mark) (handed : Marks) → ((m : ℕ) → m < marks_of g → is_touched g scope m ≡ true → found m ≡ mark_at g m files) → marks_from (marks_of g) (put_mark g.files g.rule scope found handed) ≡ new_marks g scope files handed
unfolding new_marks new_mark put_mark
put_all g scope files found handed are = marks-same (marks_of g) _ _ (λ m l. go m l (is_touched g scope m) refl)
  where
    go : (m : ℕ) → m < marks_of g → (t : Bool) → is_touched g scope m ≡ t → cond t (found m) (mark_in handed m) ≡ cond t (mark_at g m files) (mark_in handed m)
    go m l true e = are m l e
    go m l false e = refl

-- ---- how it ends: judged, or with everything as it was
abbrev Ends : Gate → Scope → (ℕ → File) → Marks → List ℕ → Bool → Marks → List ℕ → Type 0
Ends g scope files handed work r marks last =
    (r ≡ can_judge g (length work) handed) × ((marks ≡ marks_after g scope files (length work) handed) × (last ≡ work_afterwards g scope files handed work))

module _ (g : Gate) (scope : Scope) (files : ℕ → File) (handed : Marks) (work : List ℕ) where
  unjudged : can_judge g (length work) handed ≡ false → Ends g scope files handed work false handed work
  unfolding marks_after work_afterwards
  unjudged e = (sym e, (rw e, rw e))

  too_many : 32 < g.files → Ends g scope files handed work false handed work
  unfolding can_judge room_is_there
  too_many l = unjudged (rw (lt-leb g.files 32 l))

  other-lists : has_lists g handed ≡ false → Ends g scope files handed work false handed work
  unfolding can_judge
  other-lists e = unjudged (rw e (and-false (room_is_there g (length work))))

  too_short : leb (workspace_of g) (length work) ≡ false → Ends g scope files handed work false handed work
  unfolding can_judge room_is_there
  too_short e = unjudged (rw (e, and-false (leb g.files 32)))

  judged : g.files ≤ 32 → leb (workspace_of g) (length work) ≡ true → has_lists g handed ≡ true → (marks : Marks) (last : List ℕ) → (marks ≡ new_marks g scope files handed) × (last ≡ work_judged g scope files work) → Ends g scope files handed work true marks last
  unfolding can_judge room_is_there marks_after work_afterwards
  judged l e h marks last are =
      let can : can_judge g (length work) handed ≡ true = rw (le-leb g.files 32 l, e, h) in
      (sym can, (rw can are.0, rw can are.1))

-- ---- the same for the gate of lent tables
module _ (forms fields names fixed rules values texts : List ℕ) (scope : Scope) (files : ℕ → File) where
  abbrev n : ℕ
  n = length forms / 2

  abbrev marks : ℕ
  marks = n + length rules / 9

  abbrev expected : ℕ → Expected
  expected = expected_in forms fields names fixed

  abbrev gate : Gate
  gate = gate_from forms fields names fixed rules values texts

  abbrev wanted : ℕ → Bool
  wanted = needed n (length rules / 9) (rule_from rules) scope

  abbrev found : List ℕ → List ℕ → List ℕ → Marks → ℕ → Mark
  found starts work records own =
      found_mark n (rule_from rules) values texts (table_in files (count_in forms fields) starts work records) own

  pub marks-judged : (starts lent work kinds places companions records : List ℕ) → Starts (room_start expected) n starts → ReadTo n expected wanted files work (marks_in kinds places companions) records × (work ≡ work_read (is_cleared scope) expected wanted files n lent)
      → (handed last : Marks) → last ≡ marks_from marks (put_mark n (rule_from rules) scope (found starts work records (marks_in kinds places companions)) handed)
      → (last ≡ new_marks gate scope files handed) × (work ≡ work_judged gate scope files lent)
  unfolding gate_from work_judged marks_of
  marks-judged starts lent work kinds places companions records begins read handed last are =
      (are ∙ put_all gate scope files (found starts work records (marks_in kinds places companions)) handed (found-is gate scope files (count_in forms fields) (width_is forms fields names fixed) starts work (marks_in kinds places companions) records begins read.0), read.1)

  module _ (handed : Marks) (work : List ℕ) where
    pub ends-too-many : 32 < n → Ends gate scope files handed work false handed work
    unfolding gate_from
    ends-too-many l = too_many gate scope files handed work l

    pub ends-other-lists : have_length marks handed ≡ false → Ends gate scope files handed work false handed work
    unfolding gate_from has_lists marks_of
    ends-other-lists e = other-lists gate scope files handed work e

    module _ {t : Bool} (t-is : t ≡ leb (rooms_in forms fields n) (length work)) where
      pub ends-too-short : t ≡ false → Ends gate scope files handed work false handed work
      unfolding gate_from workspace_of
      ends-too-short e = too_short gate scope files handed work (room_by forms fields names fixed n (length work) t-is false e)

      pub ends-judged : t ≡ true → n ≤ 32 → have_length marks handed ≡ true → (last : Marks) (cells : List ℕ) → (last ≡ new_marks gate scope files handed) × (cells ≡ work_judged gate scope files work) → Ends gate scope files handed work true last cells
      unfolding gate_from workspace_of has_lists marks_of
      ends-judged e l h last cells are =
          judged gate scope files handed work l (room_by forms fields names fixed n (length work) t-is true e) h last cells are
