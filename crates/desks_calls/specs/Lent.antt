-- The calls of the desks over what a caller lends: a workspace, and lists for the marks, which are handed in and replaced.
use Rattle.std.specs.Prelude.{ℕ, cond, List, length, eqb}
use Rattle.parts.specs.Files.{File}
use Rattle.mark_numbers.specs.Marks.{Marks}
use Rattle.gate_marks.specs.declared.Scope.{Scope}
use Rattle.gate_marks.specs.declared.Scope.TheVariants.{Full, Change}
use Rattle.gate_marks.specs.Gate.{Gate}
use Rattle.gate_marks.specs.Again.{has_lists}
use Rattle.gate_calls.specs.Lent.{lent_fault, work_left}
use Rattle.desks_calls.specs.declared.Whose.{Whose}
use Rattle.desks_calls.specs.Join.{joined_set, or_else, join_fault, DeskAnswer, desk_answered, judged_by}
use Rattle.desks_calls.specs.Desks.{Sight, NoChange, OwnChange, CalendarChange, sight_of, seen_by_a, seen_by_b, desk_fault, join_after, answered_by, bundle_changed, DesksAnswer, both_answered, output_by}

-- ---- 100 for a desk's lists of a wrong length, then 14 for a workspace that is too short, before every other refusal
unfoldable pub judged_join_in : Gate → List ℕ → List ℕ → ℕ → Marks → DeskAnswer
judged_join_in g desk shared lent handed =
    cond (has_lists g handed) (judged_by g (or_else (lent_fault g lent handed) (join_fault g.files desk shared)) desk shared)
    (desk_answered 100 handed)

unfoldable pub desk_in : Gate → List ℕ → List ℕ → Sight → ℕ → Marks → DeskAnswer
desk_in g desk shared sight lent handed =
    answered_by g (or_else (lent_fault g lent handed) (desk_fault g.files desk shared sight)) desk shared sight handed

unfoldable pub desks_in : Gate → List ℕ → List ℕ → List ℕ → ℕ → Marks → Marks → Whose → ℕ → File → ℕ → DesksAnswer
desks_in g a b shared lent handed_a handed_b whose k f room =
    both_answered g.files whose (bundle_changed whose a b shared) k f
    (desk_in g a shared (sight_of (seen_by_a whose) k f room) lent handed_a)
    (desk_in g b shared (sight_of (seen_by_b whose) k f room) lent handed_b)

unfoldable pub desks_output_in : Gate → List ℕ → List ℕ → List ℕ → ℕ → Marks → Marks → Whose → ℕ → File → List ℕ → List ℕ
desks_output_in g a b shared lent handed_a handed_b whose k f out =
    output_by g.files (desks_in g a b shared lent handed_a handed_b whose k f (length out)) whose (bundle_changed whose a b shared) k f out

-- ---- What is left in the workspace: the cells of the files that were read, and after a refusal all as it was lent
unfoldable pub join_left : Gate → List ℕ → List ℕ → ℕ → List ℕ → List ℕ
join_left g desk shared refusal work = work_left g Full (joined_set desk shared) refusal work

unfoldable pub desk_left : Gate → List ℕ → List ℕ → Sight → ℕ → List ℕ → List ℕ
desk_left g desk shared NoChange refusal work = work
desk_left g desk shared (OwnChange k f room) refusal work =
    work_left g (Change k) (join_after desk shared (OwnChange k f room)) refusal work
desk_left g desk shared (CalendarChange k f room) refusal work =
    work_left g (Change k) (join_after desk shared (CalendarChange k f room)) refusal work

-- first A's, then B's
unfoldable pub desks_left : Gate → List ℕ → List ℕ → List ℕ → Whose → ℕ → File → ℕ → ℕ → ℕ → List ℕ → List ℕ
desks_left g a b shared whose k f room of_a of_b work =
    desk_left g b shared (sight_of (seen_by_b whose) k f room) of_b
    (desk_left g a shared (sight_of (seen_by_a whose) k f room) of_a work)
