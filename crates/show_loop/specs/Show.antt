-- A loop of links, document 02, order 14. "A new program reads TaskRelationships and shows a loop as record numbers … IDs
-- folded."
use Rattle.std.specs.Prelude.{ℕ, ◌-◌, ◌<◌, ◌≡◌, Bool, true, false, cond, List, length, leb, eqb, Option, Some, None, Result, Ok, Err}
use Rattle.rule_cells.specs.Cells.{Table, same_text}
use Rattle.bundle_layout.specs.Bundle.{bundle_fault, file_at}
use Rattle.gate_marks.specs.Marks.{file_mark, table_of}
use Rattle.schedule.specs.Schedule.{schedule}
use Rattle.link_classes.specs.Classes.{predecessor_id, successor_id}
use Rattle.link_loops.specs.Loop.{ShowsRing}

-- file 14, as the rules see it
unfoldable pub links : List ℕ → Table
links s = table_of (schedule.expected 14) (file_at s 14)

-- "each successor the next one's predecessor": of records numbered from 1
unfoldable pub leads_to : Table → ℕ → ℕ → Bool
leads_to t x y = same_text t (x - 1) successor_id t (y - 1) predecessor_id

-- "Refusals: 12, file 14's mark isn't 0; 13, the lent list is shorter than the records; both after 1 to 3"; 0 for none
unfoldable pub loop_fault : List ℕ → ℕ → ℕ
loop_fault s room =
    cond (eqb (bundle_fault 20 s) 0)
    (cond (eqb (file_mark (schedule.expected 14) (file_at s 14)).kind 0) (cond (leb (links s).records room) 0 13) 12)
    (bundle_fault 20 s)

-- what is answered: no loop or how many records it has, else a refusal
abbrev pub Shown : Type 0
Shown = Result (Option ℕ) ℕ

-- and what the list then holds
unfoldable pub ShowsLoop : List ℕ → List ℕ → List ℕ → Shown → Type 0
ShowsLoop s before after (Ok None) =
    (loop_fault s (length before) ≡ 0) × ShowsRing (leads_to (links s)) (links s).records 0 before after
ShowsLoop s before after (Ok (Some m)) =
    (loop_fault s (length before) ≡ 0) × (0 < m) × ShowsRing (leads_to (links s)) (links s).records m before after
ShowsLoop s before after (Err k) = (k ≡ loop_fault s (length before)) × (0 < k) × (after ≡ before)

-- with a lent workspace: 14 for one that is too short, "before everything"
unfoldable pub workspace : ℕ
workspace = 40960

unfoldable pub ShowsLoopIn : ℕ → List ℕ → List ℕ → List ℕ → Shown → Type 0
ShowsLoopIn lent s before after shown =
    elim (leb workspace lent) [ true ↦ ShowsLoop s before after shown | false ↦ (shown ≡ Err 14) × (after ≡ before) ]
