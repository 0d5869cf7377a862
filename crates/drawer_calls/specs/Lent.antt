-- The calls over a drawer and what else a caller lends: a workspace, and lists for the marks, which are handed in and replaced.
-- 100 for a list of another length than there are marks, then 14 for a workspace that is too short, before every other refusal.
-- What is left in the workspace is as of a bundle with these files (`judge_left`, `change_left`).
use Rattle.std.specs.Prelude.{ℕ, cond, List, eqb}
use Rattle.parts.specs.Files.{File}
use Rattle.mark_numbers.specs.Marks.{Marks, fresh_marks}
use Rattle.gate_marks.specs.Gate.{Gate, marks_of}
use Rattle.gate_marks.specs.Again.{room_is_there, has_lists}
use Rattle.gate_calls.specs.Lent.{lent_fault}
use Rattle.drawer_held.specs.Drawer.{drawer_made}
use Rattle.drawer_calls.specs.Calls.{DrawerAnswer, drawer_answer, drawer_judged, drawer_changed}

unfoldable pub drawer_judged_in : Gate → List ℕ → ℕ → Marks → DrawerAnswer
drawer_judged_in g d lent handed =
    cond (has_lists g handed) (cond (room_is_there g lent) (drawer_judged g d) (drawer_answer 14 (fresh_marks (marks_of g))))
    (drawer_answer 100 handed)

unfoldable pub drawer_changed_in : Gate → List ℕ → ℕ → File → ℕ → Marks → DrawerAnswer
drawer_changed_in g d k f lent handed =
    cond (eqb (lent_fault g lent handed) 0) (drawer_changed g d k f handed) (drawer_answer (lent_fault g lent handed) handed)

-- the drawer after a change is made
unfoldable pub drawer_made_in : Gate → List ℕ → ℕ → File → ℕ → Marks → List ℕ
drawer_made_in g d k f lent handed = cond (eqb (lent_fault g lent handed) 0) (drawer_made g.files d k f) d
