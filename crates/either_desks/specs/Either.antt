-- What document 02, order 13, asks of two changes and of a change undone, for two desks and their calendars.
use Rattle.std.specs.Prelude.{ℕ, ◌≡◌, Bool, true, false, cond, ◌&&◌, List, eqb}
use Rattle.mark_numbers.specs.Marks.{Marks}
use Rattle.bundle_layout.specs.Bundle.{file_at}
use Rattle.gate_marks.specs.Gate.{Gate}
use Rattle.gate_calls.specs.Calls.{changed_marks}
use Rattle.desks_calls.specs.declared.Seen.{Seen}
use Rattle.desks_calls.specs.declared.Seen.TheVariants.{Nothing, Own, Shared}
use Rattle.desks_calls.specs.Join.{joined_set, join_fault}
use Rattle.desks_calls.specs.Desks.{seen_by_a, seen_by_b, bundle_changed, is_written}
use Rattle.desks_calls.specs.Run.{Call, DesksState, answer_to, desks_stepped}
use Rattle.either_first.specs.Undone.{RightFor}

-- "Changes to two different files": of one bundle two numbers, of two bundles any, so that two desks' files of one number are two
abbrev pub Apart : Call → Call → Type 0
Apart c d = c.whose ≡ d.whose → c.file ≡ d.file → ⊥

-- a change that is accepted: it is written, for a desk or, of the calendars, "unless both are refused"
unfoldable pub Accepted : Gate → DesksState → Call → Type 0
Accepted g x c = is_written c.whose (answer_to g x c).a.refusal (answer_to g x c).b.refusal ≡ true

-- what a call leaves at hand: the three bundles as they then stand, and both boards as it answered them
unfoldable pub handed_on : Gate → DesksState → Call → DesksState
handed_on g x c =
    record { a = (desks_stepped g x c).a; b = (desks_stepped g x c).b; shared = (desks_stepped g x c).shared; marks_a = (answer_to g x c).a.marks; marks_b = (answer_to g x c).b.marks }

-- "accepted in both orders": all four steps
pub record BothOrders (g : Gate) (x : DesksState) (c d : Call) : Type 0 where
  pub c-first : Accepted g x c
  pub then-d : Accepted g (handed_on g x c) d
  pub d-first : Accepted g x d
  pub then-c : Accepted g (handed_on g x d) c

-- "undoing a change at once, by the old bytes or withdrawal": what stood there is put back, into an output of so many bytes
unfoldable pub undoing : DesksState → Call → ℕ → Call
undoing x c room =
    record { whose = c.whose; file = c.file; new = file_at (bundle_changed c.whose x.a x.b x.shared) c.file; room = room }

-- a desk sees a change to its own bundle or to the calendars
unfoldable pub is_own : Seen → Bool
is_own Nothing = false
is_own Own = true
is_own Shared = false

unfoldable pub is_common : Seen → Bool
is_common Nothing = false
is_common Own = false
is_common Shared = true

unfoldable pub sees : Seen → Bool
sees Nothing = false
sees Own = true
sees Shared = true

-- a desk's board after a change and its undoing, whatever was handed in: where it sees the change and its bundles are not refused,
-- the marks that read the file are those of the joined set; all others are as handed in
unfoldable pub undone_board : Gate → List ℕ → List ℕ → Seen → ℕ → Marks → Marks
undone_board g desk shared seen k handed =
    cond (eqb (join_fault g.files desk shared) 0 && sees seen) (changed_marks g k (joined_set desk shared) handed) handed

-- everything after a change and its undoing
unfoldable pub undone : Gate → DesksState → Call → DesksState
undone g x c =
    record {
      a = x.a;
      b = x.b;
      shared = x.shared;
      marks_a = undone_board g x.a x.shared (seen_by_a c.whose) c.file x.marks_a;
      marks_b = undone_board g x.b x.shared (seen_by_b c.whose) c.file x.marks_b;
    }

-- of each desk that sees the change and whose bundles are not refused, the marks that read the file are those of the joined set
pub record RightSeen (g : Gate) (x : DesksState) (c : Call) : Type 0 where
  pub at_a : join_fault g.files x.a x.shared ≡ 0 → sees (seen_by_a c.whose) ≡ true → RightFor g c.file (joined_set x.a x.shared) x.marks_a
  pub at_b : join_fault g.files x.b x.shared ≡ 0 → sees (seen_by_b c.whose) ≡ true → RightFor g c.file (joined_set x.b x.shared) x.marks_b
