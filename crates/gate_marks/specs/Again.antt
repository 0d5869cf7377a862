-- What is judged again, and what is read for that: a full judgement judges every mark; a change those that read the changed
-- file; and where one mark is asked for, that one alone, with the marks of the files that it reads. Only files that these marks
-- read are read, each once.
use Rattle.std.specs.Prelude.{ℕ, zero, suc, ◌+◌, Bool, true, false, cond, ◌&&◌, ◌||◌, List, length, ltb, leb, eqb}
use Rattle.parts.specs.Files.{File}
use Rattle.mark_numbers.specs.declared.Mark.{Mark}
use Rattle.mark_numbers.specs.Marks.{Marks, marks_from, mark_in, have_length}
use Rattle.rule_shape.specs.declared.Rule.{Rule}
use Rattle.gate_marks.specs.declared.Scope.{Scope}
use Rattle.gate_marks.specs.declared.Scope.TheVariants.{Full, Change}
use Rattle.gate_marks.specs.Gate.{Gate, marks_of, mark_reads}
use Rattle.gate_marks.specs.Work.{room_start, work_read}
use Rattle.gate_marks.specs.Marks.{mark_at}

-- whether m is the mark that is asked for, or that of a file which this one reads; of n files' marks and those of the rules
unfoldable pub asked : ℕ → (ℕ → Rule) → ℕ → ℕ → Bool
asked n rule mark m = eqb m mark || (ltb m n && mark_reads n rule mark m)

-- whether mark m is judged
unfoldable pub touched : ℕ → (ℕ → Rule) → Scope → ℕ → Bool
touched n rule Full m = true
touched n rule (Change k) m = mark_reads n rule m k
touched n rule (Scope.Mark mark) m = asked n rule mark m

abbrev pub is_touched : Gate → Scope → ℕ → Bool
is_touched g scope m = touched g.files g.rule scope m

-- "the changed file's mark and those of the rules that read it are judged from the files as they now stand, never from the
-- handed board's marks. All other marks come back as handed in."
unfoldable pub new_mark : Gate → Scope → (ℕ → File) → Marks → ℕ → Mark
new_mark g scope files handed m = cond (is_touched g scope m) (mark_at g m files) (mark_in handed m)

unfoldable pub new_marks : Gate → Scope → (ℕ → File) → Marks → Marks
new_marks g scope files handed = marks_from (marks_of g) (new_mark g scope files handed)

-- ---- A file is read where one of the marks from m on, left of them, is judged and reads it
unfoldable pub needed_from : ℕ → (ℕ → Rule) → Scope → ℕ → ℕ → ℕ → Bool
needed_from n rule scope file zero m = false
needed_from n rule scope file (suc left) m =
    elim (touched n rule scope m && mark_reads n rule m file) [ true ↦ true | false ↦ needed_from n rule scope file left (suc m) ]

-- of n files' marks and those of count rules
unfoldable pub needed : ℕ → ℕ → (ℕ → Rule) → Scope → ℕ → Bool
needed n count rule scope file = needed_from n rule scope file (n + count) 0

abbrev pub is_needed : Gate → Scope → ℕ → Bool
is_needed g scope file = needed g.files g.rules g.rule scope file

-- A rule is handed the cells of its tables' records alone, so that what stands behind them makes no difference. What a reason shows is
-- looked up in the workspace afterwards, and for a reason alone the cells are 0 before.
unfoldable pub is_cleared : Scope → Bool
is_cleared Full = false
is_cleared (Change k) = false
is_cleared (Scope.Mark mark) = true

-- what is left in the workspace
unfoldable pub work_judged : Gate → Scope → (ℕ → File) → List ℕ → List ℕ
work_judged g scope files work = work_read (is_cleared scope) g.expected (is_needed g scope) files g.files work

-- ---- Where there is room to judge: a workspace for the cells, and lists of just as many marks. The files of a set are 32 at
-- most.
unfoldable pub workspace_of : Gate → ℕ
workspace_of g = room_start g.expected g.files

unfoldable pub room_is_there : Gate → ℕ → Bool
room_is_there g lent = leb g.files 32 && leb (workspace_of g) lent

unfoldable pub has_lists : Gate → Marks → Bool
has_lists g marks = have_length (marks_of g) marks

unfoldable pub can_judge : Gate → ℕ → Marks → Bool
can_judge g lent marks = room_is_there g lent && has_lists g marks

-- without room nothing is judged and nothing written
unfoldable pub marks_after : Gate → Scope → (ℕ → File) → ℕ → Marks → Marks
marks_after g scope files lent handed = cond (can_judge g lent handed) (new_marks g scope files handed) handed

unfoldable pub work_afterwards : Gate → Scope → (ℕ → File) → Marks → List ℕ → List ℕ
work_afterwards g scope files handed work = cond (can_judge g (length work) handed) (work_judged g scope files work) work
