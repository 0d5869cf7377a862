-- What a set adds to a quarter, document 02, order 11: the sums over the records of its ResourceAssignments, by the element of
-- cost that its Resources give each. "A set with any other amount, refused or not accepted, is left out whole".
use Rattle.std.specs.Prelude.{ℕ, Bool, cond, ◌&&◌, List, leb, eqb, ℤ}
use Rattle.exact_sums.specs.Sums.{whole_at}
use Rattle.rule_cells.specs.Cells.{Table}
use Rattle.element_sums.specs.declared.Sums.{Sums}
use Rattle.element_sums.specs.Sums.{no_sums, sums_in}
use Rattle.bundle_layout.specs.Bundle.{file_at}
use Rattle.board.specs.Board.{accepted_board}
use Rattle.gate_marks.specs.Marks.{table_of}
use Rattle.gate_calls.specs.Calls.{judgement}
use Rattle.schedule.specs.Schedule.{schedule}
use Rattle.gate.specs.Gate.{verdict_of}

-- file 19 and file 16, as the rules see them
unfoldable pub assignments_of : List ℕ → Table
assignments_of s = table_of (schedule.expected 19) (file_at s 19)

unfoldable pub resources_of : List ℕ → Table
resources_of s = table_of (schedule.expected 16) (file_at s 16)

-- not refused, and all 81 marks hold
unfoldable pub set_accepted : List ℕ → Bool
set_accepted s = eqb (verdict_of (judgement schedule s)).refusal 0 && accepted_board (verdict_of (judgement schedule s)).board

-- whether it counts, and then its 24 sums; else all are 0
unfoldable pub set_sums : List ℕ → Sums
set_sums s = cond (set_accepted s) (sums_in (assignments_of s) (resources_of s)) no_sums

unfoldable pub is_counted : List ℕ → Bool
is_counted s = (set_sums s).fits

-- what it adds at place i of 24; nothing where it is left out
unfoldable pub set_adds : List ℕ → ℕ → ℤ
set_adds s i = whole_at (set_sums s).sums i

-- over a workspace of so many numbers
unfoldable pub set_sums_in : ℕ → List ℕ → Sums
set_sums_in lent s = cond (leb 794702 lent) (set_sums s) no_sums
