-- What the calls of the desks answer that other programs make: a try and a change over lists, with numbers for whose the change is
-- and for whether there are new bytes. A call with a fault of its own leaves everything as it is.
use Rattle.std.specs.Prelude.{ℕ, cond, ◌&&◌, List, length, set, eqb, ltb}
use Rattle.parts.specs.Files.{File, new_file}
use Rattle.mark_numbers.specs.Marks.{Marks}
use Rattle.schedule.specs.Schedule.{schedule}
use Rattle.desks_calls.specs.declared.Whose.{Whose}
use Rattle.desks_calls.specs.declared.Whose.TheVariants.{DeskA, DeskB, Calendars}
use Rattle.desks_calls.specs.Join.{desk_answered}
use Rattle.desks_calls.specs.Desks.{DesksAnswer}
use Rattle.desks_calls.specs.Lent.{desks_in, desks_output_in, desks_left}

-- whose the change is: 0 is desk A's, 1 desk B's, 2 the calendars
unfoldable pub whose_of : ℕ → Whose
whose_of number = cond (eqb number 0) DeskA (cond (eqb number 1) DeskB Calendars)

-- the new file of a change: these bytes where `present` is 1, none where it is 0
abbrev pub file_handed : ℕ → List ℕ → File
file_handed present bytes = new_file (eqb present 1) bytes

-- ---- A call's own fault, before every refusal of a desk: 100 where the list for both refusals is not of 2 or the one for the new
-- bundle's length not of 1, then 101 where a number that chooses is none of those that it can be, or 0
unfoldable pub desks_call_fault : List ℕ → List ℕ → ℕ → ℕ → ℕ
desks_call_fault refusals size whose present =
    cond (eqb (length refusals) 2) (cond (eqb (length size) 1) (cond (ltb 2 whose) 101 (cond (ltb 1 present) 101 0)) 100) 100

-- ---- By that fault, what both desks are answered for an output of so many bytes
unfoldable pub desks_called : ℕ → List ℕ → List ℕ → List ℕ → ℕ → Marks → Marks → ℕ → ℕ → ℕ → List ℕ → ℕ → DesksAnswer
desks_called fault a b shared lent handed_a handed_b whose file present bytes room =
    cond (eqb fault 0) (desks_in schedule a b shared lent handed_a handed_b (whose_of whose) file (file_handed present bytes) room)
    (record { a = desk_answered fault handed_a; b = desk_answered fault handed_b; size = 0 })

-- and what is left in the list for A's refusal and B's, each or 0; in that for the new bundle's length, 0 where none is written; in
-- the workspace; in the output
unfoldable pub refusals_left : ℕ → DesksAnswer → List ℕ → List ℕ
refusals_left fault x refusals = cond (eqb fault 0) (set (set refusals 0 x.a.refusal) 1 x.b.refusal) refusals

unfoldable pub size_left : ℕ → DesksAnswer → List ℕ → List ℕ
size_left fault x size = cond (eqb fault 0) (set size 0 x.size) size

unfoldable pub work_called : ℕ → List ℕ → List ℕ → List ℕ → ℕ → ℕ → ℕ → List ℕ → ℕ → DesksAnswer → List ℕ → List ℕ
work_called fault a b shared whose file present bytes room x work =
    cond (eqb fault 0) (desks_left schedule a b shared (whose_of whose) file (file_handed present bytes) room x.a.refusal x.b.refusal work) work

unfoldable pub desks_output_called : ℕ → List ℕ → List ℕ → List ℕ → ℕ → Marks → Marks → ℕ → ℕ → ℕ → List ℕ → List ℕ → List ℕ
desks_output_called fault a b shared lent handed_a handed_b whose file present bytes out =
    cond (eqb fault 0) (desks_output_in schedule a b shared lent handed_a handed_b (whose_of whose) file (file_handed present bytes) out) out
