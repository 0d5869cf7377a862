-- What document 02, order 13, asks of two changes and of a change undone, over files and marks.
use Rattle.std.specs.Prelude.{ℕ, ◌<◌, ◌≡◌, true}
use Rattle.parts.specs.Files.{File}
use Rattle.mark_numbers.specs.Marks.{Marks, mark_in}
use Rattle.bundle_layout.specs.Bundle.{file_at}
use Rattle.bundle_layout.specs.Change.{make_fault}
use Rattle.gate_marks.specs.Gate.{Gate, marks_of, reads_file}
use Rattle.gate_marks.specs.Marks.{mark_at}
use Rattle.gate_calls.specs.Sequence.{Step, State, next}

-- a change that is made and not refused
unfoldable pub Accepted : Gate → State → Step → Type 0
Accepted g x c = make_fault g.files x.bundle c.file c.new c.room ≡ 0

-- "accepted in both orders": all four steps
pub record BothOrders (g : Gate) (x : State) (c d : Step) : Type 0 where
  pub c-first : Accepted g x c
  pub then-d : Accepted g (next g x c) d
  pub d-first : Accepted g x d
  pub then-c : Accepted g (next g x d) c

-- "undoing a change at once, by the old bytes or withdrawal": the step that puts back what stood there before, into an
-- output of so many bytes; of a file that was there its bytes, also where they are none, of an omitted one a withdrawal
unfoldable pub undoing : State → Step → ℕ → Step
undoing x c room = record { file = c.file; new = file_at x.bundle c.file; room = room }

-- the marks that read file k are those of the files
pub record RightFor (g : Gate) (k : ℕ) (files : ℕ → File) (handed : Marks) : Type 0 where
  pub right : (m : ℕ) (l : m < marks_of g) → reads_file g m k ≡ true → mark_in handed m ≡ mark_at g m files
