-- Marks by themselves: each from files that are read for it alone.
-- Assumes nothing.
use Prim.Native.Nat.{ℕ, ◌+◌, ◌-◌, ◌≤◌, ◌<◌, ◌/◌}
use mathlib.Core.Path.{◌≡◌, refl, sym, ap, ◌∙◌}
use mathlib.Core.Bool.{Bool, true, false, not, cond}
use mathlib.Core.List.{List, ◌++◌}
use native.Mathlib.Omega.{arith}
use borrow.Author.Tests.{lt-ltb, le-ltb, eq-eqb, ne_eqb}
use lib.ListN.{length, take, drop}
use lib.Seq.{length-take-le, take_at}
use lib.Dec.{ltb, eqb}
use Rattle.parts.specs.Files.{File, Left, Given, is_present, bytes_of, new_file}
use Rattle.mark_numbers.specs.declared.Mark.{Mark}
use Rattle.mark_numbers.specs.Marks.{Marks, marks_in, not_judged, have_length}
use Rattle.table_file.specs.declared.FileRead.{FileRead}
use Rattle.table_file.specs.File.{Expected, file_of}
use Rattle.table_file.proofs.Kept.{file-length}
use Rattle.rule_cells.specs.Cells.{Table, table}
use Rattle.rule_shape.specs.declared.Rule.{Rule}
use Rattle.rule_shape.specs.Rule.{first_file_of, second_file_of}
use Rattle.rules.specs.declared.Break.{Break}
use Rattle.rules.specs.Judge.{rule_break, is_judged, mark_of}
use Rattle.bundle_layout.specs.Bundle.{is_omitted, part_at, file_at, bundle_fault}
use Rattle.boards.specs.declared.Board.{Board}
use Rattle.board.specs.Board.{fresh_board}
use Rattle.gate_marks.specs.Gate.{Gate, gate_from, marks_of, rule_of_mark}
use Rattle.gate_marks.specs.Work.{zeros, width_of, room_of, read_of}
use Rattle.gate_marks.specs.Marks.{mark_read, file_mark, table_of, rule_mark, rule_mark_at, mark_at, full_marks}
use Rattle.gate_marks.proofs.Rooms.{length-zeros}
use Rattle.gate_calls.specs.Calls.{judgement}
use Rattle.schedule.specs.Schedule.{schedule}
use Rattle.schedule.proofs.Laws.{files-are, marks-are}
use Rattle.gate.specs.Gate.{verdict_of}

-- ---- a file
file-again : (f : File) → new_file (is_present f) (bytes_of f) ≡ f
unfolding new_file is_present bytes_of
file-again Left = refl
file-again (Given bytes) = refl

pub there-is : (s : List ℕ) (k : ℕ) {t : Bool} → t ≡ is_omitted s k → not t ≡ is_present (file_at s k)
unfolding file_at is_present
there-is s k e = ap not e ∙ go (is_omitted s k)
  where
    go : (t : Bool) → not t ≡ is_present (cond t Left (Given (part_at s k)))
    go true = refl
    go false = refl

-- read into the front of some cells
module _ (e : Expected) (f : File) {there : Bool} {s : List ℕ} (there-is : there ≡ is_present f) (s-is : s ≡ bytes_of f) {room : ℕ} (own : ℕ) (room-is : room ≡ own) (own_is : own ≡ room_of e.form) (work : List ℕ) (fits : room ≤ length work)
    {read : FileRead} {last : List ℕ} (read_is : read ≡ (file_of e (new_file there s) (zeros (length (take room work)))).read) (last-is : last ≡ (file_of e (new_file there s) (zeros (length (take room work)))).cells) where
  same : file_of e (new_file there s) (zeros (length (take room work))) ≡ read_of e f
  unfolding read_of
  same = rw (there-is, s-is, file-again f, length-take-le room work fits, room-is, own_is)

  long : length (read_of e f).cells ≡ own
  unfolding read_of
  long = file-length e f (zeros (room_of e.form)) ∙ length-zeros (room_of e.form) ∙ sym own_is

  pub read_again : (read ≡ (read_of e f).read) × (take own (last ++ drop room work) ≡ (read_of e f).cells)
  read_again =
      let is : last ≡ (read_of e f).cells = last-is ∙ ap (λ t. t.cells) same in
      (read_is ∙ ap (λ t. t.read) same, ap (λ l. take own (l ++ drop room work)) is ∙ take_at (read_of e f).cells (drop room work) own long)

-- the front that was read, by the room that is reckoned once more
pub front_read : (cells : List ℕ) {room own : ℕ} {v : List ℕ} → room ≡ own → take own cells ≡ v → take room cells ≡ v
front_read cells e q = ap (λ (n : ℕ). take n cells) e ∙ q

-- ---- a rule, from its two files
module _ (values texts : List ℕ) (rule : Rule) (e u : Expected) (f h : File) {read other : FileRead} (read_is : read ≡ (read_of e f).read) (other-is : other ≡ (read_of u h).read) where
  judged-again : {judged : Bool} → judged ≡ is_judged read.kind other.kind → judged ≡ is_judged (read_of e f).read.kind (read_of u h).read.kind
  judged-again j = j ∙ ap (λ (x : FileRead). is_judged x.kind other.kind) read_is ∙ ap (λ (x : FileRead). is_judged (read_of e f).read.kind x.kind) other-is

  table-again : (x : Expected) (y : File) {r : FileRead} → r ≡ (read_of x y).read → {s cells : List ℕ} {width : ℕ} → s ≡ bytes_of y → cells ≡ (read_of x y).cells → width ≡ width_of x.form → table s cells width r.records ≡ table_of x y
  unfolding table_of
  table-again x y r-is s-is c-is w-is = rw (r-is, s-is, c-is, w-is)

  pub rule-again : {s t cells others : List ℕ} {width breadth : ℕ} → s ≡ bytes_of f → t ≡ bytes_of h → cells ≡ (read_of e f).cells → others ≡ (read_of u h).cells → width ≡ width_of e.form → breadth ≡ width_of u.form → {judged : Bool} → judged ≡ is_judged read.kind other.kind
      → {found : Break} → found ≡ rule_break values texts rule (table s cells width read.records) (table t others breadth other.records) → {r : Mark} → r ≡ mark_of judged found
      → r ≡ mark_of (is_judged (read_of e f).read.kind (read_of u h).read.kind) (rule_break values texts rule (table_of e f) (table_of u h))
  rule-again {s} {t} {cells} {others} {width} {breadth} s-is t-is c-is o_is w-is b-is {judged} j-is {found} found-is r-is =
      r-is ∙ ap (λ (j : Bool). mark_of j found) (judged-again j-is) ∙ ap (λ (b : Break). mark_of (is_judged (read_of e f).read.kind (read_of u h).read.kind) b) (found-is ∙ ap (λ (x : Table). rule_break values texts rule x (table t others breadth other.records)) (table-again e f read_is s-is c-is w-is) ∙ ap (λ (x : Table). rule_break values texts rule (table_of e f) x) (table-again u h other-is t-is o_is b-is))

-- over the files that its line names
pub rule-plain : (g : Gate) (rule : Rule) (files : ℕ → File) {first second : ℕ} → first ≡ first_file_of rule → second ≡ second_file_of rule → {r : Mark}
    → r ≡ mark_of (is_judged (read_of (g.expected first) (files first)).read.kind (read_of (g.expected second) (files second)).read.kind) (rule_break g.values g.texts rule (table_of (g.expected first) (files first)) (table_of (g.expected second) (files second)))
    → r ≡ rule_mark g rule (files (first_file_of rule)) (files (second_file_of rule))
unfolding rule_mark
rule-plain g rule files d e r-is = rw (← d, ← e) r-is

-- ---- a mark by its number
module _ (g : Gate) (m : ℕ) (files : ℕ → File) where
  pub own-mark : m < g.files → {read : FileRead} → read ≡ (read_of (g.expected m) (files m)).read → record { kind = read.kind; place = read.place; companion = read.companion } ≡ mark_at g m files
  unfolding mark_at file_mark mark_read
  own-mark l {read} e = rw (lt-ltb m g.files l) (ap (λ (r : FileRead). record { kind = r.kind; place = r.place; companion = r.companion }) e)

  module _ (past : g.files ≤ m) where
    pub first-missing : {first : ℕ} → first ≡ first_file_of (rule_of_mark g m) → g.files ≤ first → not_judged ≡ mark_at g m files
    unfolding mark_at rule_mark_at
    first-missing {first} e l =
        let no : ltb (first_file_of (rule_of_mark g m)) g.files ≡ false = ap (λ k. ltb k g.files) (sym e) ∙ le-ltb first g.files l in
        rw (le-ltb m g.files past, no)

    pub second-missing : {first second : ℕ} → first ≡ first_file_of (rule_of_mark g m) → first < g.files → second ≡ second_file_of (rule_of_mark g m) → g.files ≤ second → not_judged ≡ mark_at g m files
    unfolding mark_at rule_mark_at
    second-missing {first} {second} d b e l =
        let yes : ltb (first_file_of (rule_of_mark g m)) g.files ≡ true = ap (λ k. ltb k g.files) (sym d) ∙ lt-ltb first g.files b in
        let no : ltb (second_file_of (rule_of_mark g m)) g.files ≡ false = ap (λ k. ltb k g.files) (sym e) ∙ le-ltb second g.files l in
        rw (le-ltb m g.files past, yes, no)

    pub rule-mark : {first second : ℕ} → first ≡ first_file_of (rule_of_mark g m) → first < g.files → second ≡ second_file_of (rule_of_mark g m) → second < g.files → {r : Mark} → r ≡ rule_mark g (rule_of_mark g m) (files (first_file_of (rule_of_mark g m))) (files (second_file_of (rule_of_mark g m))) → r ≡ mark_at g m files
    unfolding mark_at rule_mark_at
    rule-mark {first} {second} d b e l r-is =
        let yes : ltb (first_file_of (rule_of_mark g m)) g.files ≡ true = ap (λ k. ltb k g.files) (sym d) ∙ lt-ltb first g.files b in
        let too : ltb (second_file_of (rule_of_mark g m)) g.files ≡ true = ap (λ k. ltb k g.files) (sym e) ∙ lt-ltb second g.files l in
        rw (le-ltb m g.files past, yes, too) r-is

-- ---- lists of 81 marks are as long as the tables say
pub lists_of : (marks : Marks) (forms fields names fixed rules values texts : List ℕ) → gate_from forms fields names fixed rules values texts ≡ schedule → have_length 81 marks ≡ true → have_length (length forms / 2 + length rules / 9) marks ≡ true
unfolding gate_from marks_of
lists_of marks forms fields names fixed rules values texts same e =
    let n : length forms / 2 + length rules / 9 ≡ 81 = ap marks_of same ∙ marks-are in
    rw n e

-- ---- a list of that many numbers is long enough
pub own-cells : {lent : ℕ} → lent ≡ 524288 → 524288 ≤ lent
own-cells e = omega arith

-- ---- a bundle that is refused
pub refused-verdict : (s : List ℕ) {fault : ℕ} → fault ≡ bundle_fault 20 s → (fault ≡ 0 → ⊥) → {board : Board 81} → board ≡ fresh_board → record { refusal = fault; length = 0; board = board } ≡ verdict_of (judgement schedule s)
unfolding verdict_of judgement fresh_board
refused-verdict s {fault} e some b =
    let is : bundle_fault schedule.files s ≡ fault = ap (λ n. bundle_fault n s) files-are ∙ sym e in
    rw (is, ne_eqb fault 0 some, marks-are) (ap (λ (x : Board 81). record { refusal = fault; length = 0; board = x }) b)

-- ---- one that is not
pub plain-verdict : (s : List ℕ) {fault : ℕ} → fault ≡ bundle_fault 20 s → fault ≡ 0 → {kinds places companions : List ℕ} → marks_in kinds places companions ≡ full_marks schedule (file_at s)
    → record { refusal = 0; length = length s; board = record { kinds = kinds; places = places; companions = companions } } ≡ verdict_of (judgement schedule s)
unfolding verdict_of judgement
plain-verdict s {fault} e z {kinds} {places} {companions} m =
    let none : eqb (bundle_fault schedule.files s) 0 ≡ true = ap (λ n. eqb (bundle_fault n s) 0) files-are ∙ eq-eqb (bundle_fault 20 s) 0 (sym e ∙ z) in
    rw none (ap (λ (x : Marks). record { refusal = 0; length = length s; board = record { kinds = x.kinds; places = x.places; companions = x.companions } }) m)
