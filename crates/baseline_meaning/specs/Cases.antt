-- The cases of order 8's readings, each over a few files by their numbers: marks of the profile, and what is told of one.
use Rattle.std.specs.Prelude.{ℕ, zero, suc, true, false, List, [], ◌∷◌}
use Prim.Native.String.{String, ◌++◌}
use Rattle.mark_numbers.specs.declared.Mark.{Mark}
use Rattle.mark_numbers.specs.Marks.{holds}
use Rattle.reason_answer.specs.declared.Reason.{Reason}
use Rattle.gate_marks.specs.Gate.{reads_file}
use Rattle.reason_meaning.specs.Cases.{broken}
use Rattle.baseline.specs.Baseline.{baseline}

-- ---- Files
-- a file 10 of one record: the fields that must be given, and more
unfoldable pub data_with : String → List (ℕ × String)
data_with more = (10, required ++ more ++ "}]") ∷ []
  where
    required : String
    required =
        "[{\"TaskID\":\"T\",\"CalendarID\":\"C\",\"CurrentDuration\":1,\"CurrentStartDate\":\"2026-01-02\",\"CurrentFinishDate\":\"2026-01-02\",\"EarlyStartDate\":\"2026-01-02\",\"EarlyFinishDate\":\"2026-01-02\",\"LateStartDate\":\"2026-01-02\",\"LateFinishDate\":\"2026-01-02\",\"FreeFloatDuration\":0,\"TotalFloatDuration\":0,\"OnCriticalPath\":true,\"CalculatedPercentComplete\":0,\"RemainingDuration\":1"

-- the five baseline fields, with these two dates
unfoldable pub five_with : String → String → String
five_with start finish =
    ",\"BaselineDuration\":1,\"BaselineStartDate\":\"" ++ start ++ "\",\"BaselineFinishDate\":\"" ++ finish ++ "\",\"StartVarianceDuration\":0,\"FinishVarianceDuration\":0"

-- a file 19 of one record, with an actual number of hours that is 0
unfoldable pub no_hours : List (ℕ × String)
no_hours = (19, "[{\"ResourceID\":\"R\",\"TaskID\":\"T\",\"Actual_ToDate_Hours\":0}]") ∷ []

-- ---- Marks
abbrev pub mark : ℕ → ℕ → Mark
mark kind place = record { kind = kind; place = place; companion = 0 }

pub record Case : Type 0 where
  pub files : List (ℕ × String)
  pub marks : List ℕ
  pub stated : List Mark

abbrev pub case : List (ℕ × String) → List ℕ → List Mark → Case
case files marks stated = record { files = files; marks = marks; stated = stated }

abbrev pub further : List ℕ
further = 81 ∷ 82 ∷ 83 ∷ 84 ∷ []

unfoldable pub cases : List Case
cases =
    -- 8.1: "all five" are mark 75's; all five null holds 75 and breaks 81
    case (data_with "") (75 ∷ 81 ∷ []) (holds ∷ mark 1 1 ∷ [])
    -- one variance missing
    ∷ case (data_with ",\"BaselineDuration\":1,\"BaselineStartDate\":\"2026-01-02\",\"BaselineFinishDate\":\"2026-01-02\",\"StartVarianceDuration\":0") (75 ∷ 81 ∷ []) (mark 1 1 ∷ mark 1 1 ∷ [])
    -- no records: holds
    ∷ case ((10, "[]") ∷ (19, "[]") ∷ []) further (holds ∷ holds ∷ holds ∷ holds ∷ [])
    -- 8.2: equal dates hold
    ∷ case (data_with (five_with "2026-01-02" "2026-01-02")) further (holds ∷ holds ∷ holds ∷ holds ∷ [])
    -- and later ones don't: by the day, by the month, by the year
    ∷ case (data_with (five_with "2026-01-03" "2026-01-02")) further (holds ∷ holds ∷ mark 1 1 ∷ holds ∷ [])
    ∷ case (data_with (five_with "2026-02-01" "2026-01-02")) (83 ∷ []) (mark 1 1 ∷ [])
    ∷ case (data_with (five_with "2027-01-01" "2026-12-31")) (83 ∷ []) (mark 1 1 ∷ [])
    ∷ case (data_with (five_with "2026-12-31" "2027-01-01")) (83 ∷ []) (holds ∷ [])
    -- a null holds
    ∷ case (data_with ",\"BaselineStartDate\":\"2026-01-03\"") (83 ∷ []) (holds ∷ [])
    ∷ case (data_with ",\"BaselineStartDate\":null,\"BaselineFinishDate\":\"2026-01-02\"") (83 ∷ []) (holds ∷ [])
    -- 82 by either date
    ∷ case (data_with ",\"ActualFinishDate\":\"2026-01-02\"") (82 ∷ []) (mark 1 1 ∷ [])
    ∷ case (data_with ",\"ActualStartDate\":\"2026-01-02\",\"ActualFinishDate\":null") (82 ∷ []) (mark 1 1 ∷ [])
    -- 8.3: "given" is not null: 0 is given
    ∷ case no_hours further (holds ∷ holds ∷ holds ∷ mark 1 1 ∷ [])
    -- 84 reads the two actual fields alone
    ∷ case ((19, "[{\"ResourceID\":\"R\",\"TaskID\":\"T\",\"Estimate_ToComplete_Hours\":1,\"PhysicalPercentComplete\":1}]") ∷ []) (84 ∷ []) (holds ∷ [])
    -- an unreadable file 10 leaves 81 to 83 not judged
    ∷ case ((10, "[") ∷ []) further (mark 2 0 ∷ mark 2 0 ∷ mark 2 0 ∷ holds ∷ [])
    ∷ []

-- ---- Marks of n from mark m on: those that a changed file touches
unfoldable pub touched_from : ℕ → ℕ → ℕ → List ℕ
touched_from file zero m = []
touched_from file (suc n) m = elim (reads_file baseline m file) [ true ↦ m ∷ touched_from file n (suc m) | false ↦ touched_from file n (suc m) ]

-- ---- What is told
pub record Told : Type 0 where
  pub files : List (ℕ × String)
  pub mark : ℕ
  pub stated : Reason

abbrev pub tells : List (ℕ × String) → ℕ → Reason → Told
tells files mark stated = record { files = files; mark = mark; stated = stated }

unfoldable pub reasons : List Told
reasons =
    -- 8.4: 84 and 82 by the first given in table order, not as written
    tells no_hours 84 (broken 19 1 0 "Actual_ToDate_Hours" 218 1)
    ∷ tells ((19, "[{\"ResourceID\":\"R\",\"TaskID\":\"T\",\"Actual_ToDate_Hours\":0,\"Actual_ToDate_Dollars\":5}]") ∷ []) 84 (broken 19 1 0 "Actual_ToDate_Dollars" 244 1)
    ∷ tells (data_with ",\"ActualFinishDate\":\"2026-01-02\",\"ActualStartDate\":\"2026-01-02\"") 82 (broken 10 1 0 "ActualStartDate" 570 12)
    -- 81 by the first null of the five, which is empty
    ∷ tells (data_with ",\"BaselineDuration\":1,\"StartVarianceDuration\":0") 81 (broken 10 1 0 "BaselineStartDate" 0 0)
    -- 83 by BaselineStartDate
    ∷ tells (data_with (five_with "2026-01-03" "2026-01-02")) 83 (broken 10 1 0 "BaselineStartDate" 561 12)
    ∷ []
