-- No mark that a call of the profile's gate judges is ever 99, or 16.
-- Assumes nothing.
use Prim.Native.Nat.{ℕ, ◌<◌}
use mathlib.Core.Path.{◌≡◌, refl}
use mathlib.Core.Bool.{true}
use mathlib.Core.List.{List}
use Rattle.parts.specs.Files.{File}
use Rattle.mark_numbers.specs.Marks.{Marks, mark_in}
use Rattle.bundle_layout.specs.Change.{try_fault}
use Rattle.gate_marks.specs.Gate.{marks_of, reads_file}
use Rattle.gate_calls.specs.Calls.{judgement, tried}
use Rattle.gate_calls.proofs.MarkKinds.{judged-kinds, tried-kinds, never}
use Rattle.baseline.specs.Baseline.{baseline}
use Rattle.baseline.proofs.Laws.{fields-few}

module _ (s : List ℕ) (m : ℕ) (l : m < marks_of baseline) where
  pub never-99 : (mark_in (judgement baseline s).marks m).kind ≡ 99 → ⊥
  never-99 = never (mark_in (judgement baseline s).marks m).kind 99 (judged-kinds baseline fields-few s m l) refl

  pub never-16 : (mark_in (judgement baseline s).marks m).kind ≡ 16 → ⊥
  never-16 = never (mark_in (judgement baseline s).marks m).kind 16 (judged-kinds baseline fields-few s m l) refl

  -- after a change, of each mark that reads the changed file
  module _ (k : ℕ) (f : File) (handed : Marks) (again : reads_file baseline m k ≡ true) (fine : try_fault baseline.files s k f ≡ 0) where
    pub change-never-99 : (mark_in (tried baseline s k f handed).marks m).kind ≡ 99 → ⊥
    change-never-99 =
        never (mark_in (tried baseline s k f handed).marks m).kind 99 (tried-kinds baseline fields-few s k f handed m l again fine) refl
