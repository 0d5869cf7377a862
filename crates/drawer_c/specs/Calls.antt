-- What the calls of the drawer answer that other programs make: numbers and lent lists in, a number out.
use Rattle.std.specs.Prelude.{ℕ, cond, List, ltb, eqb}
use Rattle.parts.specs.Files.{File, new_file}
use Rattle.mark_numbers.specs.Marks.{Marks}
use Rattle.bundle_layout.specs.Bundle.{is_omitted}
use Rattle.schedule.specs.Schedule.{schedule}
use Rattle.drawer_calls.specs.Calls.{DrawerAnswer, drawer_answer}
use Rattle.drawer_calls.specs.Lent.{drawer_changed_in, drawer_made_in}

-- ---- A change
-- the new file: these bytes where `present` is 1, none where it is 0
abbrev pub file_handed : ℕ → List ℕ → File
file_handed present bytes = new_file (eqb present 1) bytes

-- any other `present` is refused as 101, before all else, and everything is then as it was
unfoldable pub change_called : List ℕ → ℕ → ℕ → List ℕ → ℕ → Marks → DrawerAnswer
change_called d file present bytes lent handed =
    cond (ltb 1 present) (drawer_answer 101 handed) (drawer_changed_in schedule d file (file_handed present bytes) lent handed)

unfoldable pub drawer_called : List ℕ → ℕ → ℕ → List ℕ → ℕ → Marks → List ℕ
drawer_called d file present bytes lent handed =
    cond (ltb 1 present) d (drawer_made_in schedule d file (file_handed present bytes) lent handed)

-- ---- Numbers that a call puts down
-- one that was handed in, where the call is not refused; as it was where it is
unfoldable pub number_left : ℕ → ℕ → ℕ → ℕ
number_left refusal new old = cond (eqb refusal 0) new old

-- 1 for a file that is there, 0 for an omitted one
unfoldable pub present_held : List ℕ → ℕ → ℕ
present_held d file = cond (is_omitted d file) 0 1
