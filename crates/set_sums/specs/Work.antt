-- What is left in a lent workspace.
use Rattle.std.specs.Prelude.{ℕ, cond, List, ◌++◌, length, drop, leb}
use Rattle.gate_calls.specs.Calls.{judgement}
use Rattle.gate_calls.specs.Lent.{judge_left}
use Rattle.schedule.specs.Schedule.{schedule}
use Rattle.table_again.specs.Again.{file_read_again}
use Rattle.set_sums.specs.Set.{set_accepted}

-- the cells of file 16 and behind them those of file 19, each of 4,096 records; the rest as before
unfoldable pub tables_left : List ℕ → List ℕ → List ℕ
tables_left s work = (file_read_again s 16 32768).cells ++ (file_read_again s 19 73728).cells ++ drop 106496 work

-- nothing where it is too short; else what the judgement left, and in an accepted set these cells over it
unfoldable pub sums_left : List ℕ → List ℕ → List ℕ
sums_left s work =
    cond (leb 794702 (length work))
    (cond (set_accepted s) (tables_left s (judge_left schedule s 0 work)) (judge_left schedule s (judgement schedule s).refusal work))
    work
