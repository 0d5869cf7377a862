-- What is told of a mark of a bundle: refused or not, and which value it shows.
-- Assumes nothing.
use Prim.Native.Nat.{ℕ}
use mathlib.Core.Path.{◌≡◌, refl}
use lib.Dec.{ltb, eqb}
use Rattle.json_bytes.proofs.Laws.{either}
use Rattle.parts.specs.Files.{File}
use Rattle.mark_numbers.specs.declared.Mark.{Mark}
use Rattle.rule_cells.specs.Cells.{Table}
use Rattle.rule_shape.specs.declared.Rule.{Rule}
use Rattle.rule_reason.specs.declared.Searched.{Searched}
use Rattle.rule_reason.specs.declared.Searched.TheVariants.{In, Nowhere}
use Rattle.rule_reason.specs.Reason.{searched_in}
use Rattle.reason_answer.specs.declared.Shown.{Shown}
use Rattle.reason_answer.specs.declared.Reason.{Reason}
use Rattle.gate_marks.specs.Gate.{Gate}
use Rattle.reason.specs.Reason.{shown_of, broken_by, told_of, reason_at}
use Rattle.gate_calls.specs.Reasons.{refusal_of}

-- ---- of a mark that there is, something is told
abbrev Told : Reason → Type 0
Told r = refusal_of r ≡ 0

broken-told : (searched : Searched) (shown : Shown) → Told (broken_by searched shown)
unfolding broken_by refusal_of
broken-told (In file) shown = refl
broken-told Nowhere shown = refl

told-told : (n m : ℕ) (rule : Rule) (offset : ℕ) (kind : ℕ → ℕ) (t : Table) (x : Mark) → Told (told_of n m rule offset kind t x)
unfolding told_of refusal_of
told-told n m rule offset kind t x =
    either Told (eqb x.kind 0) _ _ refl (either Told (ltb m n) _ _ refl (either Told (eqb x.kind 2) _ _ refl (broken-told (searched_in rule) (shown_of rule offset t x))))

pub reason-told : (g : Gate) (offset : ℕ → ℕ) (files : ℕ → File) (m : ℕ) → refusal_of (reason_at g offset files m) ≡ 0
unfolding reason_at
reason-told g offset files m = told-told g.files m _ _ _ _ _
