-- The calls with a list of entries. Document 02, order 7: "The list starts with the entries of the readable files among 4 to 19,
-- file by file; the rest is as before. Refusals: 8, list shorter than those records together, after 1 to 3; the list is then
-- untouched."
use Rattle.std.specs.Prelude.{ℕ, Bool, cond, ◌&&◌, List, ◌++◌, length, drop, leb, eqb}
use Rattle.parts.specs.Files.{File}
use Rattle.mark_numbers.specs.Marks.{Marks, fresh_marks}
use Rattle.bundle_layout.specs.Bundle.{file_at}
use Rattle.bundle_layout.specs.Change.{files_after, output_of}
use Rattle.entries.specs.declared.Entry.{Entry}
use Rattle.gate_marks.specs.declared.Scope.{Scope}
use Rattle.gate_marks.specs.declared.Scope.TheVariants.{Full, Change}
use Rattle.gate_marks.specs.Gate.{Gate, marks_of}
use Rattle.gate_marks.specs.Again.{has_lists, work_judged}
use Rattle.gate_calls.specs.Calls.{Answer, answer, judgement, tried, change_made}
use Rattle.set_entries.specs.Entries.{set_entries}
use Rattle.set_entries.specs.Work.{list_space_of, set_listed}
use Rattle.gate_flat.specs.declared.Listed.{Listed}

-- ---- What is lent: 100 where a list of marks has another length than there are marks, then 14 where the workspace is too short,
-- both before every other refusal
unfoldable pub has_list_space : Gate → ℕ → Bool
has_list_space g lent = leb g.files 32 && leb (list_space_of g) lent

unfoldable pub list_fault : Gate → ℕ → Marks → ℕ
list_fault g lent handed = cond (has_lists g handed) (cond (has_list_space g lent) 0 14) 100

unfoldable pub over_list : Gate → ℕ → Marks → Marks → Answer → Answer
over_list g lent handed back whole =
    cond (has_lists g handed) (cond (has_list_space g lent) whole (answer 14 0 back)) (answer 100 0 handed)

-- ---- 8, where a list has fewer places than there are entries, after every refusal that the call has without a list
unfoldable pub unless_short : List Entry → ℕ → Marks → Answer → Answer
unless_short entries places back whole =
    cond (eqb whole.refusal 0) (cond (leb (length entries) places) whole (answer 8 0 back)) whole

-- ---- The answers, by how many numbers are lent and how many places the list has
unfoldable pub judge_listed : Gate → List ℕ → ℕ → ℕ → Marks → Answer
judge_listed g s lent places handed =
    over_list g lent handed (fresh_marks (marks_of g))
    (unless_short (set_entries g Full (file_at s)) places (fresh_marks (marks_of g)) (judgement g s))

-- "A refused change gives the board as handed in": the entries are those of the files that were read for this change
unfoldable pub try_listed : Gate → List ℕ → ℕ → File → ℕ → ℕ → Marks → Answer
try_listed g s k f lent places handed =
    over_list g lent handed handed (unless_short (set_entries g (Change k) (files_after s k f)) places handed (tried g s k f handed))

unfoldable pub make_listed : Gate → List ℕ → ℕ → File → ℕ → ℕ → ℕ → Marks → Answer
make_listed g s k f room lent places handed =
    over_list g lent handed handed
    (unless_short (set_entries g (Change k) (files_after s k f)) places handed (change_made g s k f handed room))

-- ---- What a call leaves, by its refusal
-- "Outputs are then untouched."
unfoldable pub output_after : Gate → ℕ → (ℕ → File) → List ℕ → List ℕ
output_after g refusal files out = cond (eqb refusal 0) (output_of g.files files out) out

-- "the rest is as before"; "the list is then untouched"
unfoldable pub list_after : ℕ → List Entry → List Entry → List Entry
list_after refusal entries list = cond (eqb refusal 0) (entries ++ drop (length entries) list) list

-- the numbers of an answer, with how many entries the list starts with
unfoldable pub listed_of : List Entry → Answer → Listed
listed_of entries x =
    record { refusal = x.refusal; length = x.length; entries = cond (eqb x.refusal 0) (length entries) 0 }

-- in the workspace: the entries' numbers, behind the cells of the files that were read; after another refusal than 8 all as it
-- was lent
unfoldable pub list_left : Gate → Scope → (ℕ → File) → ℕ → List ℕ → List ℕ
list_left g scope files refusal work =
    cond (eqb refusal 0) (work_judged g scope files (set_listed g scope files work))
    (cond (eqb refusal 8) (set_listed g scope files work) work)
