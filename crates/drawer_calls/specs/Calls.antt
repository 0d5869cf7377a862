-- The calls over a drawer, for any gate: judge it in full, try a change, make it. Document 02, order 12.
use Rattle.std.specs.Prelude.{ℕ, cond, List, eqb}
use Rattle.parts.specs.Files.{File}
use Rattle.mark_numbers.specs.Marks.{Marks, fresh_marks}
use Rattle.bundle_layout.specs.Bundle.{file_at}
use Rattle.bundle_layout.specs.Change.{files_after}
use Rattle.gate_marks.specs.Gate.{Gate, marks_of}
use Rattle.gate_marks.specs.Marks.{full_marks}
use Rattle.gate_calls.specs.Calls.{changed_marks}
use Rattle.drawer_held.specs.Drawer.{drawer_fault, drawer_change_fault}

-- how a call ends: with a refusal or 0, and the marks
pub record DrawerAnswer : Type 0 where
  pub refusal : ℕ
  pub marks : Marks

abbrev pub drawer_answer : ℕ → Marks → DrawerAnswer
drawer_answer refusal marks = record { refusal = refusal; marks = marks }

-- document 01: "A refused full judgement gives 81 marks 'not judged'"
unfoldable pub drawer_judged : Gate → List ℕ → DrawerAnswer
drawer_judged g d =
    cond (eqb (drawer_fault g.files d) 0) (drawer_answer 0 (full_marks g (file_at d)))
    (drawer_answer (drawer_fault g.files d) (fresh_marks (marks_of g)))

-- a change of file k to f, tried or made: "the board is the one this change to its bundle would give"; refused, "with drawer
-- and board untouched". The room is known before, so a try gives 11 too; the drawer after a change that is made is `drawer_made`
unfoldable pub drawer_changed : Gate → List ℕ → ℕ → File → Marks → DrawerAnswer
drawer_changed g d k f handed =
    cond (eqb (drawer_change_fault g.files d k f) 0) (drawer_answer 0 (changed_marks g k (files_after d k f) handed))
    (drawer_answer (drawer_change_fault g.files d k f) handed)
