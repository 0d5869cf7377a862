-- Changes one after the other, each made from the bundle and the marks that the one before left.
use Rattle.std.specs.Prelude.{ℕ, cond, List, [], ◌∷◌, eqb}
use Rattle.parts.specs.Files.{File}
use Rattle.mark_numbers.specs.Marks.{Marks}
use Rattle.bundle_layout.specs.Bundle.{bundle_of}
use Rattle.bundle_layout.specs.Change.{files_after, make_fault}
use Rattle.gate_marks.specs.Gate.{Gate}
use Rattle.gate_calls.specs.Calls.{changed_marks}

-- "a file number, with new bytes .., or withdrawal", and how long the output is
pub record Step : Type 0 where
  pub file : ℕ
  pub new : File
  pub room : ℕ

-- what is at hand between two calls
pub record State : Type 0 where
  pub bundle : List ℕ
  pub marks : Marks

-- an accepted change hands back the new bundle and marks for it; a refused one leaves both as they are
unfoldable pub next : Gate → State → Step → State
next g x c =
    record { bundle = bundle_of g.files (files_after x.bundle c.file c.new); marks = changed_marks g c.file (files_after x.bundle c.file c.new) x.marks }

unfoldable pub stepped : Gate → State → Step → State
stepped g x c = cond (eqb (make_fault g.files x.bundle c.file c.new c.room) 0) (next g x c) x

unfoldable pub after : Gate → List Step → State → State
after g [] x = x
after g (c ∷ cs) x = after g cs (stepped g x c)
