-- What is told of a mark from lists in which it was judged is what is told of it from the files, and how the whole ends.
-- Assumes nothing.
use Prim.Native.Nat.{ℕ, ◌+◌, ◌-◌, ◌/◌, ◌≤◌, ◌<◌}
use mathlib.Core.Path.{◌≡◌, refl, sym, ap, ◌∙◌}
use mathlib.Core.Bool.{Bool, true, false, cond, ◌&&◌}
use mathlib.Core.List.{List, []}
use native.Mathlib.Omega.{arith}
use borrow.Author.Tests.{lt-ltb, le-ltb, le-leb, lt-leb, ltb-true, ltb-false, leb-true, eqb-false}
use lib.ListN.{length, get_or, take}
use lib.Seq.{length-take-le}
use lib.Dec.{ltb, leb, eqb}
use Rattle.json_bytes.proofs.Laws.{both_left, both_right}
use Rattle.parts.specs.Files.{File}
use Rattle.mark_numbers.specs.declared.Mark.{Mark}
use Rattle.mark_numbers.specs.Marks.{Marks, marks_in, mark_in, have_length, not_judged}
use Rattle.mark_numbers.proofs.Laws.{long-lists}
use Rattle.rule_cells.specs.Cells.{Table, table}
use Rattle.rule_shape.specs.declared.Rule.{Rule}
use Rattle.rule_shape.specs.Rule.{first_file_of, second_file_of, rule_from}
use Rattle.rule_reason.specs.Reason.{searched_in}
use Rattle.rule_reason.proofs.Laws.{deciding-any-count}
use Rattle.reason_answer.specs.declared.Reason.{Reason}
use Rattle.reason_answer.specs.declared.Reason.TheVariants.{Refused, Holds, NotJudged, OwnMark}
use Rattle.found_marks.proofs.Laws.{and-false}
use Rattle.gate_marks.specs.declared.Scope.{Scope}
use Rattle.gate_marks.specs.Gate.{Gate, marks_of, rule_of_mark, reads_file, expected_in, gate_from}
use Rattle.gate_marks.specs.Work.{room_start, cells_in, read_of}
use Rattle.gate_marks.specs.Marks.{file_mark, table_of, rule_mark, rule_mark_at, mark_at}
use Rattle.gate_marks.specs.Again.{new_marks, is_needed, is_cleared, work_judged, workspace_of, room_is_there, has_lists, can_judge, marks_after, work_afterwards}
use Rattle.gate_marks.proofs.Rooms.{width_is, cells-by}
use Rattle.gate_marks.proofs.Laws.{first_reads, second_reads, mark-read, asked-needed, asked-mark, asked-file, cells-needed}
use Rattle.reason.specs.Reason.{shown_of, broken_by, is_readable, lowest_of, unread_of, told_of, reason_at, can_tell, reason_in, work_told}
use Rattle.reason.specs.Code.{kinds_in, table_found}

and-true : (t : Bool) → (t && true) ≡ t
and-true true = refl
and-true false = refl

-- ---- how many records a table has makes no difference to what is shown of one
pub shown-any-count : (rule : Rule) (offset : ℕ) (s cells : List ℕ) (width n m : ℕ) (x : Mark) → shown_of rule offset (table s cells width n) x ≡ shown_of rule offset (table s cells width m) x
unfolding shown_of
shown-any-count rule offset s cells width n m x = rw (deciding-any-count s cells width n m (x.place - 1) rule)

-- ---- the same is told by the same kinds of the files that a rule reads, and the same table
readable-same : (n : ℕ) (kind others : ℕ → ℕ) (k : ℕ) → (k < n → kind k ≡ others k) → is_readable n kind k ≡ is_readable n others k
unfolding is_readable
readable-same n kind others k same = go (ltb k n) refl
  where
    go : (t : Bool) → ltb k n ≡ t → (t && eqb (kind k) 0) ≡ (t && eqb (others k) 0)
    go true e = ap (λ x. eqb x 0) (same (ltb-true k n e))
    go false e = refl

module _ (n : ℕ) (kind others : ℕ → ℕ) (rule : Rule) (first : first_file_of rule < n → kind (first_file_of rule) ≡ others (first_file_of rule)) (second : second_file_of rule < n → kind (second_file_of rule) ≡ others (second_file_of rule)) where
  unread-same : unread_of n kind rule ≡ unread_of n others rule
  unfolding unread_of lowest_of
  unread-same = rw (readable-same n kind others (first_file_of rule) first, readable-same n kind others (second_file_of rule) second)

told_same : (n m : ℕ) (rule : Rule) (a b : ℕ) (kind others : ℕ → ℕ) (t u : Table) (x : Mark) → (n ≤ m → unread_of n kind rule ≡ unread_of n others rule) → (n ≤ m → (x.kind ≡ 2 → ⊥) → shown_of rule a t x ≡ shown_of rule b u x) → told_of n m rule a kind t x ≡ told_of n m rule b others u x
unfolding told_of
told_same n m rule a b kind others t u x unread shown =
    go (eqb x.kind 0) (ltb m n) refl (eqb x.kind 2) refl Holds (OwnMark x.kind x.place x.companion)
  where
    go : (z l : Bool) → ltb m n ≡ l → (w : Bool) → eqb x.kind 2 ≡ w → (h o : Reason) → cond z h (cond l o (cond w (NotJudged (unread_of n kind rule)) (broken_by (searched_in rule) (shown_of rule a t x)))) ≡ cond z h (cond l o (cond w (NotJudged (unread_of n others rule)) (broken_by (searched_in rule) (shown_of rule b u x))))
    go true l e w f h o = refl
    go false true e w f h o = refl
    go false false e true f h o = ap NotJudged (unread (ltb-false m n e))
    go false false e false f h o = ap (broken_by (searched_in rule)) (shown (ltb-false m n e) (eqb-false x.kind 2 f))

-- ---- a rule's mark that is not 2 is one over files that the set has
pub rule-files : (g : Gate) (m : ℕ) (files : ℕ → File) → g.files ≤ m → ((mark_at g m files).kind ≡ 2 → ⊥) → (first_file_of (rule_of_mark g m) < g.files) × (second_file_of (rule_of_mark g m) < g.files)
unfolding mark_at rule_mark_at
rule-files g m files l other =
    go (ltb (first_file_of (rule_of_mark g m)) g.files && ltb (second_file_of (rule_of_mark g m)) g.files) refl (rule_mark g (rule_of_mark g m) (files (first_file_of (rule_of_mark g m))) (files (second_file_of (rule_of_mark g m)))) (rw (le-ltb m g.files l) at other)
  where
    go : (t : Bool) → (ltb (first_file_of (rule_of_mark g m)) g.files && ltb (second_file_of (rule_of_mark g m)) g.files) ≡ t → (x : Mark) → ((cond t x not_judged).kind ≡ 2 → ⊥) → (first_file_of (rule_of_mark g m) < g.files) × (second_file_of (rule_of_mark g m) < g.files)
    go true e x not-two =
        (ltb-true _ g.files (both_left (ltb (first_file_of (rule_of_mark g m)) g.files) (ltb (second_file_of (rule_of_mark g m)) g.files) e), ltb-true _ g.files (both_right (ltb (first_file_of (rule_of_mark g m)) g.files) (ltb (second_file_of (rule_of_mark g m)) g.files) e))
    go false e x not-two = absurd (not-two refl)

-- ---- so what is told is decided by the files that the mark reads, and by where they start
module _ (g : Gate) (m : ℕ) (offset others : ℕ → ℕ) (files those : ℕ → File) (same : (k : ℕ) → k < g.files → reads_file g m k ≡ true → (files k ≡ those k) × (offset k ≡ others k)) where
  reads_first : g.files ≤ m → reads_file g m (first_file_of (rule_of_mark g m)) ≡ true
  reads_first l = first_reads g.files g.rule m l

  pub reason-same : reason_at g offset files m ≡ reason_at g others those m
  unfolding reason_at
  reason-same =
      ap (told_of g.files m (rule_of_mark g m) (offset (first_file_of (rule_of_mark g m))) (λ k. (file_mark (g.expected k) (files k)).kind) (table_of (g.expected (first_file_of (rule_of_mark g m))) (files (first_file_of (rule_of_mark g m))))) (mark-read g m files those (λ k l e. (same k l e).0))
      ∙ told_same g.files m (rule_of_mark g m) _ _ _ _ _ _ (mark_at g m those)
      (λ l. unread-same g.files _ _ (rule_of_mark g m) (λ h. ap (λ f. (file_mark (g.expected (first_file_of (rule_of_mark g m))) f).kind) (same _ h (reads_first l)).0) (λ h. ap (λ f. (file_mark (g.expected (second_file_of (rule_of_mark g m))) f).kind) (same _ h (second_reads g.files g.rule m l)).0))
      (λ l other. let both = same _ (rule-files g m those l other).0 (reads_first l) in rw (both.0, both.1))

-- ---- a mark of the gate of lent tables, judged with those of the files that it reads
module _ (forms fields names fixed rules values texts : List ℕ) (m : ℕ) (offset : ℕ → ℕ) (files : ℕ → File) (handed : Marks) (work : List ℕ) where
  abbrev n : ℕ
  n = length forms / 2

  abbrev g : Gate
  g = gate_from forms fields names fixed rules values texts

  abbrev rule : Rule
  rule = rule_from rules (m - n)

  abbrev told : Marks → List ℕ → Reason
  told last cells =
      told_of n m rule (offset (first_file_of rule)) (kinds_in last.kinds) (table_found forms fields files cells (first_file_of rule)) (mark_in last m)

  module _ (few : m < n + length rules / 9) (most : n ≤ 32) (room : room_start (expected_in forms fields names fixed) n ≤ length work) where
    -- the kind of the mark of a file that the rule reads
    kind-is : (k : ℕ) → k < n → reads_file g m k ≡ true → get_or (new_marks g (Scope.Mark m) files handed).kinds k 0 ≡ (file_mark (expected_in forms fields names fixed k) (files k)).kind
    unfolding gate_from marks_of mark_in
    kind-is k l e = ap (λ x. x.kind) (asked-file g m few files handed k l e)

    unread-is : n ≤ m → unread_of n (kinds_in (new_marks g (Scope.Mark m) files handed).kinds) rule ≡ unread_of n (λ k. (file_mark (expected_in forms fields names fixed k) (files k)).kind) rule
    unfolding gate_from
    unread-is l =
        unread-same n _ _ rule (λ h. kind-is (first_file_of rule) h (first_reads n (rule_from rules) m l)) (λ h. kind-is (second_file_of rule) h (second_reads n (rule_from rules) m l))

    cells_are : (k : ℕ) → k < n → reads_file g m k ≡ true → cells_in (expected_in forms fields [] []) (work_judged g (Scope.Mark m) files work) k ≡ (read_of (expected_in forms fields names fixed k) (files k)).cells
    unfolding gate_from work_judged is_cleared marks_of
    cells_are k l e =
        cells-by forms fields names fixed (work_judged g (Scope.Mark m) files work) k ∙ cells-needed (expected_in forms fields names fixed) (is_needed g (Scope.Mark m)) files work n k room l (asked-needed g m few k e)

    table_is : (k : ℕ) (x : Mark) → k < n → reads_file g m k ≡ true → shown_of rule (offset k) (table_found forms fields files (work_judged g (Scope.Mark m) files work) k) x ≡ shown_of rule (offset k) (table_of (expected_in forms fields names fixed k) (files k)) x
    unfolding table_found table_of
    table_is k x l e =
        rw (lt-ltb k 32 (omega arith), cells_are k l e, width_is forms fields names fixed k) (shown-any-count rule (offset k) _ _ _ _ _ x)

    pub told_is : told (new_marks g (Scope.Mark m) files handed) (work_judged g (Scope.Mark m) files work) ≡ reason_at g offset files m
    unfolding gate_from reason_at marks_of
    told_is =
        ap (told_of n m rule (offset (first_file_of rule)) (kinds_in (new_marks g (Scope.Mark m) files handed).kinds) (table_found forms fields files (work_judged g (Scope.Mark m) files work) (first_file_of rule))) (asked-mark g m few files handed)
        ∙ told_same n m rule (offset (first_file_of rule)) (offset (first_file_of rule)) _ _ _ _ (mark_at g m files) unread-is (λ l other. table_is (first_file_of rule) (mark_at g m files) (rule-files g m files l other).0 (first_reads n (rule_from rules) m l))

  -- how it ends, with lists of as many marks as there are
  module _ (lists : have_length (n + length rules / 9) handed ≡ true) (few : m < n + length rules / 9) {could : Bool} {last : Marks} {cells : List ℕ}
      (are : (could ≡ can_judge g (length work) handed) × ((last ≡ marks_after g (Scope.Mark m) files (length work) handed) × (cells ≡ work_afterwards g (Scope.Mark m) files handed work))) where
    has-lists : has_lists g handed ≡ true
    unfolding gate_from has_lists marks_of
    has-lists = lists

    can-is : can_judge g (length work) handed ≡ room_is_there g (length work)
    unfolding can_judge
    can-is = rw has-lists (and-true (room_is_there g (length work)))

    abbrev Ends : Reason → Type 0
    Ends x = (x ≡ cond (room_is_there g (length work)) (reason_at g offset files m) (Refused 14)) × (cells ≡ cond (room_is_there g (length work)) (work_judged g (Scope.Mark m) files work) work)

    pub ends-refused : could ≡ false → Ends (Refused 14)
    unfolding work_afterwards
    ends-refused e =
        let none : room_is_there g (length work) ≡ false = sym can-is ∙ sym are.0 ∙ e in
        (rw none, are.1.1 ∙ rw (can-is, none))

    module _ (e : could ≡ true) where
      has_room : room_is_there g (length work) ≡ true
      has_room = sym can-is ∙ sym are.0 ∙ e

      last-is : last ≡ new_marks g (Scope.Mark m) files handed
      unfolding marks_after
      last-is = are.1.0 ∙ rw (can-is, has_room)

      work-is : cells ≡ work_judged g (Scope.Mark m) files work
      unfolding work_afterwards
      work-is = are.1.1 ∙ rw (can-is, has_room)

      few-files : n ≤ 32
      unfolding room_is_there gate_from
      few-files = leb-true n 32 (both_left (leb n 32) (leb (workspace_of g) (length work)) has_room)

      long-enough : room_start (expected_in forms fields names fixed) n ≤ length work
      unfolding room_is_there gate_from workspace_of
      long-enough = leb-true _ _ (both_right (leb n 32) (leb (room_start (expected_in forms fields names fixed) n) (length work)) has_room)

      pub ends-told : {x : Reason} → x ≡ told last cells → Ends x
      ends-told x-is =
          (x-is ∙ ap (λ l. told l cells) last-is ∙ ap (told (new_marks g (Scope.Mark m) files handed)) work-is ∙ told_is few few-files long-enough ∙ rw has_room, work-is ∙ rw has_room)

-- ---- and with lists of its own, of 128 marks, of which as many are lent as there are
pub front : (i : ℕ) (s : List ℕ) → length s ≡ 128 → i ≤ 128 → i ≡ length (take i s)
front i s e l = sym (length-take-le i s (omega arith))

pub fronts : (n count rules : ℕ) → count ≡ rules → n + count ≤ 128 → (kinds places companions : List ℕ) → length kinds ≡ 128 → length places ≡ 128 → length companions ≡ 128 → have_length (n + rules) (marks_in (take (n + count) kinds) (take (n + count) places) (take (n + count) companions)) ≡ true
fronts n count rules e l kinds places companions k p c =
    long-lists (n + rules) _ (record {
      kinds-long = sym (front (n + count) kinds k l) ∙ ap (λ x. n + x) e;
      places-long = sym (front (n + count) places p l) ∙ ap (λ x. n + x) e;
      companions-long = sym (front (n + count) companions c l) ∙ ap (λ x. n + x) e;
    })

module _ (forms fields names fixed rules values texts : List ℕ) (m : ℕ) (offset : ℕ → ℕ) (files : ℕ → File) (work : List ℕ) {count : ℕ} (count-is : count ≡ length rules / 9) where
  abbrev marks : ℕ
  marks = length forms / 2 + count

  abbrev gate : Gate
  gate = gate_from forms fields names fixed rules values texts

  abbrev Whole : Reason → List ℕ → Type 0
  Whole x cells = (x ≡ reason_in gate offset files (length work) m) × (cells ≡ work_told gate files m work)

  marks-are : marks ≡ marks_of gate
  unfolding gate_from marks_of
  marks-are = ap (λ x. length forms / 2 + x) count-is

  pub whole-no-mark : marks ≤ m → Whole (Refused 7) work
  unfolding reason_in work_told
  whole-no-mark l =
      let none : ltb m (marks_of gate) ≡ false = rw marks-are at (le-ltb m marks l) in
      (rw none, rw none)

  module _ (l : m < marks) where
    there : ltb m (marks_of gate) ≡ true
    there = rw marks-are at (lt-ltb m marks l)

    pub whole-too-many : 128 < marks → Whole (Refused 14) work
    unfolding reason_in work_told can_tell
    whole-too-many h =
        let many : leb (marks_of gate) 128 ≡ false = rw marks-are at (lt-leb marks 128 h) in
        (rw (there, many, and-false (room_is_there gate (length work))), rw (there, many, and-false (room_is_there gate (length work))))

    pub whole-told : marks ≤ 128 → {x : Reason} {cells : List ℕ} → (x ≡ cond (room_is_there gate (length work)) (reason_at gate offset files m) (Refused 14)) × (cells ≡ cond (room_is_there gate (length work)) (work_judged gate (Scope.Mark m) files work) work) → Whole x cells
    unfolding reason_in work_told can_tell
    whole-told h are =
        let few : leb (marks_of gate) 128 ≡ true = rw marks-are at (le-leb marks 128 h) in
        (are.0 ∙ rw (there, few, and-true (room_is_there gate (length work))), are.1 ∙ rw (there, few, and-true (room_is_there gate (length work))))
