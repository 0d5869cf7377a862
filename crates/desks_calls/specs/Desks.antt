-- The call of document 02, order 10: "One call takes the three bundles, both boards and one change, to a desk or the calendars,
-- and answers each desk".
use Rattle.std.specs.Prelude.{ℕ, Bool, true, false, cond, ◌||◌, List, length, eqb}
use Rattle.parts.specs.Files.{File}
use Rattle.mark_numbers.specs.Marks.{Marks}
use Rattle.bundle_bytes.specs.Pieces.{changed}
use Rattle.bundle_layout.specs.Bundle.{bundle_length}
use Rattle.bundle_layout.specs.Change.{files_after, output_of}
use Rattle.gate_marks.specs.Gate.{Gate}
use Rattle.gate_calls.specs.Calls.{changed_marks}
use Rattle.desks_calls.specs.declared.Whose.{Whose}
use Rattle.desks_calls.specs.declared.Whose.TheVariants.{DeskA, DeskB, Calendars}
use Rattle.desks_calls.specs.declared.Seen.{Seen}
use Rattle.desks_calls.specs.declared.Seen.TheVariants.{Nothing, Own, Shared}
use Rattle.desks_calls.specs.Join.{joined_set, or_else, join_fault, change_fault, DeskAnswer, desk_answered}

-- ---- What a desk sees of a call's change: none, one of its own bundle, or one of the calendars; a change is a file number, the
-- file that it becomes, and how long the output is
pub data Sight : Type 0 where
  NoChange : Sight
  OwnChange : ℕ → File → ℕ → Sight
  CalendarChange : ℕ → File → ℕ → Sight

unfoldable pub sight_of : Seen → ℕ → File → ℕ → Sight
sight_of Nothing k f room = NoChange
sight_of Own k f room = OwnChange k f room
sight_of Shared k f room = CalendarChange k f room

unfoldable pub seen_by_a : Whose → Seen
seen_by_a DeskA = Own
seen_by_a DeskB = Nothing
seen_by_a Calendars = Shared

unfoldable pub seen_by_b : Whose → Seen
seen_by_b DeskA = Nothing
seen_by_b DeskB = Own
seen_by_b Calendars = Shared

-- ---- One desk
-- its own 1 to 3, the shared 1 to 3, and 9; and only of a change that it sees 4, 9, 6 and 5
unfoldable pub sight_fault : ℕ → List ℕ → List ℕ → Sight → ℕ
sight_fault n desk shared NoChange = 0
sight_fault n desk shared (OwnChange k f room) = change_fault n false desk k f room
sight_fault n desk shared (CalendarChange k f room) = change_fault n true shared k f room

unfoldable pub desk_fault : ℕ → List ℕ → List ℕ → Sight → ℕ
desk_fault n desk shared sight = or_else (join_fault n desk shared) (sight_fault n desk shared sight)

-- the joined set as it stands after the change
unfoldable pub join_after : List ℕ → List ℕ → Sight → ℕ → File
join_after desk shared NoChange = joined_set desk shared
join_after desk shared (OwnChange k f room) = changed (joined_set desk shared) k f
join_after desk shared (CalendarChange k f room) = changed (joined_set desk shared) k f

-- "A desk's change hands the other's board back. A calendar change judges again only the marks that read the changed file, on
-- both boards"; "Demands 2 and 3 read the joined set"
unfoldable pub marks_seen : Gate → List ℕ → List ℕ → Sight → Marks → Marks
marks_seen g desk shared NoChange handed = handed
marks_seen g desk shared (OwnChange k f room) handed =
    changed_marks g k (join_after desk shared (OwnChange k f room)) handed
marks_seen g desk shared (CalendarChange k f room) handed =
    changed_marks g k (join_after desk shared (CalendarChange k f room)) handed

-- a refused desk gets its board as handed in
unfoldable pub answered_by : Gate → ℕ → List ℕ → List ℕ → Sight → Marks → DeskAnswer
answered_by g refusal desk shared sight handed =
    desk_answered refusal (cond (eqb refusal 0) (marks_seen g desk shared sight handed) handed)

unfoldable pub desk_answer : Gate → List ℕ → List ℕ → Sight → Marks → DeskAnswer
desk_answer g desk shared sight handed =
    answered_by g (desk_fault g.files desk shared sight) desk shared sight handed

-- ---- Both desks
unfoldable pub bundle_changed : Whose → List ℕ → List ℕ → List ℕ → List ℕ
bundle_changed DeskA a b shared = a
bundle_changed DeskB a b shared = b
bundle_changed Calendars a b shared = shared

-- whether the new bundle is written, by the refusals of both: a desk's as that desk is answered; a calendar change "is written
-- unless both are refused"
unfoldable pub is_written : Whose → ℕ → ℕ → Bool
is_written DeskA of_a of_b = eqb of_a 0
is_written DeskB of_a of_b = eqb of_b 0
is_written Calendars of_a of_b = eqb of_a 0 || eqb of_b 0

-- what both get, and the length of the new bundle, 0 where none is written
pub record DesksAnswer : Type 0 where
  pub a : DeskAnswer
  pub b : DeskAnswer
  pub size : ℕ

unfoldable pub both_answered : ℕ → Whose → List ℕ → ℕ → File → DeskAnswer → DeskAnswer → DesksAnswer
both_answered n whose s k f of_a of_b =
    record { a = of_a; b = of_b; size = cond (is_written whose of_a.refusal of_b.refusal) (bundle_length n (files_after s k f)) 0 }

unfoldable pub desks_answer : Gate → List ℕ → List ℕ → List ℕ → Marks → Marks → Whose → ℕ → File → ℕ → DesksAnswer
desks_answer g a b shared handed_a handed_b whose k f room =
    both_answered g.files whose (bundle_changed whose a b shared) k f
    (desk_answer g a shared (sight_of (seen_by_a whose) k f room) handed_a)
    (desk_answer g b shared (sight_of (seen_by_b whose) k f room) handed_b)

-- "After success the output starts with the new bundle and the rest of it is as before."
unfoldable pub output_by : ℕ → DesksAnswer → Whose → List ℕ → ℕ → File → List ℕ → List ℕ
output_by n answer whose s k f out =
    cond (is_written whose answer.a.refusal answer.b.refusal) (output_of n (files_after s k f) out) out

unfoldable pub desks_output : Gate → List ℕ → List ℕ → List ℕ → Marks → Marks → Whose → ℕ → File → List ℕ → List ℕ
desks_output g a b shared handed_a handed_b whose k f out =
    output_by g.files (desks_answer g a b shared handed_a handed_b whose k f (length out)) whose (bundle_changed whose a b shared) k f out

-- "A try answers with the board, or the refusal, that making the change into an output long enough would give": no bundle is
-- longer than this
abbrev pub long_enough : ℕ
long_enough = 1048576
