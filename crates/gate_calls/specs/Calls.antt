-- The three calls of document 01, for any gate: judge a bundle in full, try a change, make it.
use Rattle.std.specs.Prelude.{ℕ, cond, List, length, eqb}
use Rattle.parts.specs.Files.{File}
use Rattle.mark_numbers.specs.Marks.{Marks, marks_from, mark_in, fresh_marks}
use Rattle.bundle_layout.specs.Bundle.{bundle_fault, file_at, bundle_length}
use Rattle.bundle_layout.specs.Change.{files_after, try_fault, make_fault}
use Rattle.gate_marks.specs.Gate.{Gate, marks_of, reads_file}
use Rattle.gate_marks.specs.Marks.{mark_at, full_marks}

-- how a call ends: with a refusal or 0, the length of the bundle that was judged (0 if refused), and the marks
pub record Answer : Type 0 where
  pub refusal : ℕ
  pub length : ℕ
  pub marks : Marks

abbrev pub answer : ℕ → ℕ → Marks → Answer
answer refusal length marks = record { refusal = refusal; length = length; marks = marks }

-- "After an accepted change the changed file's mark and those of the rules that read it are judged from the files as they
-- now stand, never from the handed board's marks. All other marks come back as handed in."
unfoldable pub changed_marks : Gate → ℕ → (ℕ → File) → Marks → Marks
changed_marks g k files handed = marks_from (marks_of g) (λ m. cond (reads_file g m k) (mark_at g m files) (mark_in handed m))

-- ---- The calls
-- "A refused full judgement gives 81 marks 'not judged'"
unfoldable pub judgement : Gate → List ℕ → Answer
judgement g s =
    cond (eqb (bundle_fault g.files s) 0) (answer 0 (length s) (full_marks g (file_at s))) (answer (bundle_fault g.files s) 0 (fresh_marks (marks_of g)))

-- an accepted change of file k to f, and a refused one: "a refused change gives the board as handed in"
unfoldable pub accepted : Gate → List ℕ → ℕ → File → Marks → Answer
accepted g s k f handed =
    answer 0 (bundle_length g.files (files_after s k f)) (changed_marks g k (files_after s k f) handed)

unfoldable pub answered : Gate → ℕ → List ℕ → ℕ → File → Marks → Answer
answered g refusal s k f handed = cond (eqb refusal 0) (accepted g s k f handed) (answer refusal 0 handed)

unfoldable pub tried : Gate → List ℕ → ℕ → File → Marks → Answer
tried g s k f handed = answered g (try_fault g.files s k f) s k f handed

unfoldable pub change_made : Gate → List ℕ → ℕ → File → Marks → ℕ → Answer
change_made g s k f handed room = answered g (make_fault g.files s k f room) s k f handed
