-- The calls over what a caller lends: a workspace, and lists for the marks, which are handed in and replaced.
-- Document 02, order 3: "Our stack is small".
use Rattle.std.specs.Prelude.{ℕ, cond, List, length, eqb}
use Rattle.parts.specs.Files.{File}
use Rattle.mark_numbers.specs.Marks.{Marks, fresh_marks}
use Rattle.bundle_layout.specs.Bundle.{file_at}
use Rattle.bundle_layout.specs.Change.{files_after, output}
use Rattle.gate_marks.specs.declared.Scope.{Scope}
use Rattle.gate_marks.specs.declared.Scope.TheVariants.{Full, Change}
use Rattle.gate_marks.specs.Gate.{Gate, marks_of}
use Rattle.gate_marks.specs.Again.{room_is_there, has_lists, work_judged}
use Rattle.gate_calls.specs.Calls.{Answer, answer, judgement, tried, change_made}

-- 100 where a list has another length than there are marks, then 14 where the workspace is too short: both tested before
-- every refusal of document 01, and then no file is read; a full judgement with 14 makes every mark 'not judged', all else is as handed
unfoldable pub lent_fault : Gate → ℕ → Marks → ℕ
lent_fault g lent handed = cond (has_lists g handed) (cond (room_is_there g lent) 0 14) 100

-- a call over lists that were handed in, which a workspace that is too short leaves as it is said
unfoldable pub over : Gate → ℕ → Marks → Marks → Answer → Answer
over g lent handed back whole = cond (has_lists g handed) (cond (room_is_there g lent) whole (answer 14 0 back)) (answer 100 0 handed)

-- ---- The answers, by how many numbers are lent, never by which
unfoldable pub judged_in : Gate → List ℕ → ℕ → Marks → Answer
judged_in g s lent handed = over g lent handed (fresh_marks (marks_of g)) (judgement g s)

unfoldable pub tried_in : Gate → List ℕ → ℕ → File → ℕ → Marks → Answer
tried_in g s k f lent handed = over g lent handed handed (tried g s k f handed)

unfoldable pub made_in : Gate → List ℕ → ℕ → File → ℕ → ℕ → Marks → Answer
made_in g s k f room lent handed = over g lent handed handed (change_made g s k f handed room)

unfoldable pub output_in : Gate → List ℕ → ℕ → File → ℕ → Marks → List ℕ → List ℕ
output_in g s k f lent handed out = cond (eqb (lent_fault g lent handed) 0) (output g.files s k f out) out

-- ---- What is left in the workspace: the cells of the files that were read, and after a refusal all as it was lent
unfoldable pub work_left : Gate → Scope → (ℕ → File) → ℕ → List ℕ → List ℕ
work_left g scope files refusal work = cond (eqb refusal 0) (work_judged g scope files work) work

unfoldable pub judge_left : Gate → List ℕ → ℕ → List ℕ → List ℕ
judge_left g s refusal work = work_left g Full (file_at s) refusal work

unfoldable pub change_left : Gate → List ℕ → ℕ → File → ℕ → List ℕ → List ℕ
change_left g s k f refusal work = work_left g (Change k) (files_after s k f) refusal work
