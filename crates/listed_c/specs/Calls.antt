-- What the calls with a list and a change answer that other programs make: the change's file is handed over as a number and bytes.
use Rattle.std.specs.Prelude.{ℕ, cond, List, eqb, ltb}
use Rattle.parts.specs.Files.{File, new_file}
use Rattle.mark_numbers.specs.Marks.{Marks}
use Rattle.gate_calls.specs.Calls.{Answer, answer}
use Rattle.schedule.specs.Schedule.{schedule}
use Rattle.gate_flat.specs.Listed.{try_listed, make_listed}

-- the new file of a change: these bytes where `present` is 1, none where it is 0
abbrev pub file_handed : ℕ → List ℕ → File
file_handed present bytes = new_file (eqb present 1) bytes

-- 101 where the number that says whether there are new bytes is neither 1 nor 0, before all else; everything is then left as it is
unfoldable pub list_called : ℕ → Marks → Answer → Answer
list_called present handed whole = cond (ltb 1 present) (answer 101 0 handed) whole

unfoldable pub try_list_called : List ℕ → ℕ → ℕ → List ℕ → ℕ → ℕ → Marks → Answer
try_list_called s file present bytes lent places handed =
    list_called present handed (try_listed schedule s file (file_handed present bytes) lent places handed)

unfoldable pub make_list_called : List ℕ → ℕ → ℕ → List ℕ → ℕ → ℕ → ℕ → Marks → Answer
make_list_called s file present bytes room lent places handed =
    list_called present handed (make_listed schedule s file (file_handed present bytes) room lent places handed)
