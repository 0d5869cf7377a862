-- Calls one after the other, each made from the three bundles and both boards that the one before left.
use Rattle.std.specs.Prelude.{ℕ, Bool, cond, not, ◌&&◌, List, [], ◌∷◌, eqb}
use Rattle.parts.specs.Files.{File}
use Rattle.mark_numbers.specs.Marks.{Marks}
use Rattle.bundle_layout.specs.Bundle.{bundle_of}
use Rattle.bundle_layout.specs.Change.{files_after}
use Rattle.gate_marks.specs.Gate.{Gate}
use Rattle.desks_calls.specs.declared.Whose.{Whose}
use Rattle.desks_calls.specs.declared.Whose.TheVariants.{DeskA, DeskB, Calendars}
use Rattle.desks_calls.specs.Join.{DeskAnswer, judged_join}
use Rattle.desks_calls.specs.Desks.{is_written, DesksAnswer, desks_answer}

-- a change, and how long its output is
pub record Call : Type 0 where
  pub whose : Whose
  pub file : ℕ
  pub new : File
  pub room : ℕ

-- what is at hand between two calls
pub record DesksState : Type 0 where
  pub a : List ℕ
  pub b : List ℕ
  pub shared : List ℕ
  pub marks_a : Marks
  pub marks_b : Marks

unfoldable pub answer_to : Gate → DesksState → Call → DesksAnswer
answer_to g x c =
    desks_answer g x.a x.b x.shared x.marks_a x.marks_b c.whose c.file c.new c.room

-- a bundle after the call: the new one where it was written
unfoldable pub bundle_now : ℕ → Bool → List ℕ → ℕ → File → List ℕ
bundle_now n is_new s k f = cond is_new (bundle_of n (files_after s k f)) s

-- "is written unless both are refused; where one is, .. for that desk demand 3 starts again from a full judgement on the
-- calendars as written"
unfoldable pub marks_now : Gate → Bool → List ℕ → List ℕ → DeskAnswer → Marks
marks_now g is_new desk shared answer =
    cond (is_new && not (eqb answer.refusal 0)) (judged_join g desk shared).marks answer.marks

unfoldable pub desks_next : Gate → Whose → Bool → ℕ → File → DesksState → DesksAnswer → DesksState
desks_next g DeskA is_new k f x answer =
    record { a = bundle_now g.files is_new x.a k f; b = x.b; shared = x.shared; marks_a = answer.a.marks; marks_b = answer.b.marks }
desks_next g DeskB is_new k f x answer =
    record { a = x.a; b = bundle_now g.files is_new x.b k f; shared = x.shared; marks_a = answer.a.marks; marks_b = answer.b.marks }
desks_next g Calendars is_new k f x answer =
    record {
      a = x.a;
      b = x.b;
      shared = bundle_now g.files is_new x.shared k f;
      marks_a = marks_now g is_new x.a (bundle_now g.files is_new x.shared k f) answer.a;
      marks_b = marks_now g is_new x.b (bundle_now g.files is_new x.shared k f) answer.b;
    }

unfoldable pub desks_stepped : Gate → DesksState → Call → DesksState
desks_stepped g x c =
    desks_next g c.whose (is_written c.whose (answer_to g x c).a.refusal (answer_to g x c).b.refusal) c.file c.new x (answer_to g x c)

unfoldable pub after_calls : Gate → List Call → DesksState → DesksState
after_calls g [] x = x
after_calls g (c ∷ cs) x = after_calls g cs (desks_stepped g x c)
