-- What is told of a mark, for any gate and from its files alone. Document 02, order 6: "Given a bundle and a mark number, the
-- gate gives the rule, the record, the deciding field, and its value as the part of the bundle where it stands, quotes
-- included, empty for null."
use Rattle.std.specs.Prelude.{ℕ, ◌+◌, ◌-◌, ◌*◌, Bool, cond, ◌&&◌, List, length, ltb, leb, eqb}
use Rattle.parts.specs.Files.{File}
use Rattle.mark_numbers.specs.declared.Mark.{Mark}
use Rattle.rule_cells.specs.Cells.{Table, cell_of, start_of, is_given}
use Rattle.rule_shape.specs.declared.Rule.{Rule}
use Rattle.rule_shape.specs.Rule.{first_file_of, second_file_of}
use Rattle.rule_reason.specs.declared.Searched.{Searched}
use Rattle.rule_reason.specs.declared.Searched.TheVariants.{In, Nowhere}
use Rattle.rule_reason.specs.Reason.{deciding_field, searched_in}
use Rattle.reason_answer.specs.declared.Shown.{Shown}
use Rattle.reason_answer.specs.declared.Reason.{Reason}
use Rattle.reason_answer.specs.declared.Reason.TheVariants.{Refused, Holds, NotJudged, OwnMark, Broken, Missing}
use Rattle.reason_answer.specs.Reason.{shown_at}
use Rattle.gate_marks.specs.declared.Scope.{Scope}
use Rattle.gate_marks.specs.Gate.{Gate, marks_of, rule_of_mark}
use Rattle.gate_marks.specs.Marks.{file_mark, table_of, mark_at}
use Rattle.gate_marks.specs.Again.{room_is_there, work_judged}

-- ---- A rule that is broken
-- "its value as the part of the bundle where it stands": where the value of field k of record r, counted from 0, starts in the
-- bundle, in which its file starts at an offset, and how long it is; 0 and 0 for null
unfoldable pub value_start : ℕ → List ℕ → ℕ → ℕ → ℕ → ℕ
value_start offset cells width r k = cond (is_given cells width r k) (offset + start_of cells width r k) 0

unfoldable pub value_length : List ℕ → ℕ → ℕ → ℕ → ℕ
value_length cells width r k = cond (is_given cells width r k) (cell_of cells width r (2 * k + 1) - start_of cells width r k) 0

-- what is shown of a rule whose mark is x, over table t: the record and its companion are those of the mark
unfoldable pub shown_of : Rule → ℕ → Table → Mark → Shown
shown_of rule offset t x =
    let r = x.place - 1 in
    let k = deciding_field rule t r in
    shown_at (first_file_of rule) x.place x.companion k (value_start offset t.cells t.width r k) (value_length t.cells t.width r k)

-- "A missing target names the table searched"
unfoldable pub broken_by : Searched → Shown → Reason
broken_by (In file) shown = Missing shown file
broken_by Nowhere shown = Broken shown

-- ---- A rule that is not judged: "one not judged names the lowest-numbered unreadable file", of those that it reads
-- a file can be read where the set, of n files, has it and its own mark holds
unfoldable pub is_readable : ℕ → (ℕ → ℕ) → ℕ → Bool
is_readable n kind k = ltb k n && eqb (kind k) 0

-- of two files, the lower number first, of which one at least can't be read
unfoldable pub lowest_of : (ℕ → Bool) → ℕ → ℕ → ℕ
lowest_of readable low high = cond (readable low) high low

unfoldable pub unread_of : ℕ → (ℕ → ℕ) → Rule → ℕ
unread_of n kind rule =
    cond (ltb (second_file_of rule) (first_file_of rule)) (lowest_of (is_readable n kind) (second_file_of rule) (first_file_of rule))
    (lowest_of (is_readable n kind) (first_file_of rule) (second_file_of rule))

-- ---- What is told of mark x, whose number is m: "A mark that holds says so"; "For a file's own mark it gives its numbers
-- alone."
unfoldable pub told_of : ℕ → ℕ → Rule → ℕ → (ℕ → ℕ) → Table → Mark → Reason
told_of n m rule offset kind t x =
    cond (eqb x.kind 0) Holds
    (cond (ltb m n) (OwnMark x.kind x.place x.companion)
    (cond (eqb x.kind 2) (NotJudged (unread_of n kind rule)) (broken_by (searched_in rule) (shown_of rule offset t x))))

-- of a gate's mark, from the files and where each starts in the bundle
unfoldable pub reason_at : Gate → (ℕ → ℕ) → (ℕ → File) → ℕ → Reason
reason_at g offset files m =
    let rule = rule_of_mark g m in
    let file = first_file_of rule in
    told_of g.files m rule (offset file) (λ k. (file_mark (g.expected k) (files k)).kind) (table_of (g.expected file) (files file)) (mark_at g m files)

-- ---- Over a workspace of so many numbers: 7 for a number that is no mark's; then 14 for a workspace that is too short, and
-- for a gate of over 32 files or 128 marks
unfoldable pub can_tell : Gate → ℕ → Bool
can_tell g lent = room_is_there g lent && leb (marks_of g) 128

unfoldable pub reason_in : Gate → (ℕ → ℕ) → (ℕ → File) → ℕ → ℕ → Reason
reason_in g offset files lent m =
    cond (ltb m (marks_of g)) (cond (can_tell g lent) (reason_at g offset files m) (Refused 14)) (Refused 7)

-- what is left in the workspace: the cells of the files that the mark reads, and after a refusal all as it was lent
unfoldable pub work_told : Gate → (ℕ → File) → ℕ → List ℕ → List ℕ
work_told g files m work = cond (ltb m (marks_of g) && can_tell g (length work)) (work_judged g (Scope.Mark m) files work) work
