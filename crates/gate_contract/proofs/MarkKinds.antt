-- Document 02, order 9: "kinds 21 and 22 aren't given". No mark that a call of this gate judges is ever one of them; nor is it 99, or 16.
-- Assumes nothing.
use Prim.Native.Nat.{ℕ, ◌<◌}
use mathlib.Core.Path.{◌≡◌, refl}
use mathlib.Core.Bool.{true, false}
use mathlib.Core.List.{List, [], ◌∷◌, map, flat_map}
use Rattle.json_bytes.specs.Reads.{within}
use Rattle.json_bytes.proofs.FaultKinds.{is_in, below}
use Rattle.parts.specs.Files.{File}
use Rattle.mark_numbers.specs.Marks.{Marks, mark_in}
use Rattle.bundle_layout.specs.Change.{try_fault, make_fault}
use Rattle.table_value.specs.Value.{text_type}
use Rattle.gate_marks.specs.Gate.{marks_of, reads_file}
use Rattle.gate_marks.proofs.MarkKinds.{array_kinds}
use Rattle.gate_calls.specs.Calls.{judgement, tried, change_made}
use Rattle.gate_calls.proofs.MarkKinds.{Has, judged-in, tried-in, made_in, never-in}
use Rattle.contract.specs.Contract.{contract}
use Rattle.contract.proofs.Laws.{fields-few}
use Rattle.contract.proofs.MarkKinds.{kinds-are}

has : Has contract array_kinds
has = record { fields-few = fields-few; not-judged = refl; marks = kinds-are }

-- the kinds that no mark of this gate has, computed
pub never-given : map (is_in array_kinds) (16 ∷ 21 ∷ 22 ∷ 99 ∷ []) ≡ false ∷ false ∷ false ∷ false ∷ []
unfolding below flat_map within text_type
never-given = refl

module _ (s : List ℕ) (m : ℕ) (l : m < marks_of contract) (kind : ℕ) (none : is_in array_kinds kind ≡ false) where
  pub never-judged : (mark_in (judgement contract s).marks m).kind ≡ kind → ⊥
  never-judged = never-in array_kinds (mark_in (judgement contract s).marks m).kind kind (judged-in contract array_kinds has s m l) none

  -- after a change, of each mark that reads the changed file
  module _ (k : ℕ) (f : File) (handed : Marks) (again : reads_file contract m k ≡ true) where
    pub never-tried : try_fault contract.files s k f ≡ 0 → (mark_in (tried contract s k f handed).marks m).kind ≡ kind → ⊥
    never-tried fine =
        never-in array_kinds (mark_in (tried contract s k f handed).marks m).kind kind (tried-in contract array_kinds has s k f handed m l again fine) none

    pub never-made : (room : ℕ) → make_fault contract.files s k f room ≡ 0 → (mark_in (change_made contract s k f handed room).marks m).kind ≡ kind → ⊥
    never-made room fine =
        never-in array_kinds (mark_in (change_made contract s k f handed room).marks m).kind kind (made_in contract array_kinds has s k f handed m l again room fine) none
