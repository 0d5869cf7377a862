-- The numbers of a reason that are said to be the mark's are the mark's: of every rule's mark, and of each file's own mark that
-- doesn't hold.
-- Assumes nothing.
use Prim.Native.Nat.{ℕ, ◌≤◌, ◌<◌}
use mathlib.Core.Path.{◌≡◌, refl}
use mathlib.Core.Bool.{Bool, true, false, cond, ◌&&◌}
use mathlib.Core.List.{List, [], ◌∷◌}
use borrow.Author.Tests.{ne_eqb, lt-ltb, le-ltb}
use lib.ListN.{take, drop}
use lib.Dec.{eqb, ltb}
use Rattle.parts.specs.Files.{File}
use Rattle.mark_numbers.specs.declared.Mark.{Mark}
use Rattle.mark_numbers.specs.Marks.{holds, not_judged}
use Rattle.reason_answer.specs.declared.Shown.{Shown}
use Rattle.reason_answer.specs.declared.Reason.{Reason}
use Rattle.reason_numbers.specs.Numbers.{shown_numbers, told_numbers}
use Rattle.rule_cells.specs.Cells.{Table}
use Rattle.rule_shape.specs.declared.Rule.{Rule}
use Rattle.rule_shape.specs.Rule.{first_file_of, second_file_of}
use Rattle.rules.specs.declared.Break.{Break}
use Rattle.rules.specs.Judge.{mark_of}
use Rattle.rule_reason.specs.declared.Searched.{Searched}
use Rattle.rule_reason.specs.declared.Searched.TheVariants.{In, Nowhere}
use Rattle.rule_reason.specs.Reason.{searched_in}
use Rattle.gate_marks.specs.Gate.{Gate, rule_of_mark}
use Rattle.gate_marks.specs.Marks.{rule_mark, rule_mark_at, mark_at}
use Rattle.reason.specs.Reason.{shown_of, broken_by, told_of, reason_at}

abbrev mark_numbers : Mark → List ℕ
mark_numbers x = x.kind ∷ x.place ∷ x.companion ∷ []

-- numbers 1, 2 and 3 of the nine
abbrev mark_told : Reason → List ℕ
mark_told told = take 3 (drop 1 (told_numbers told))

-- ---- a broken rule
shown-mark : (searched : Searched) (x : Shown) → mark_told (broken_by searched x) ≡ 1 ∷ x.«record» ∷ x.companion ∷ []
unfolding broken_by told_numbers shown_numbers
shown-mark (In file) x = refl
shown-mark Nowhere x = refl

-- ---- what a rule's mark can be
abbrev broken_mark : Break → Mark
broken_mark b = record { kind = 1; place = b.«record»; companion = b.other }

module _ (P : Mark → Type 0) (held : P holds) (not : P not_judged) (broken : (b : Break) → P (broken_mark b)) where
  judged-mark : (judged : Bool) (b : Break) → P (mark_of judged b)
  unfolding mark_of
  judged-mark false b = not
  judged-mark true b = go (eqb b.«record» 0)
    where
      go : (t : Bool) → P (cond t holds (broken_mark b))
      go true = held
      go false = broken b

  rule-mark : (g : Gate) (r : Rule) (files : ℕ → File) → P (rule_mark_at g r files)
  unfolding rule_mark_at rule_mark
  rule-mark g r files = go (ltb (first_file_of r) g.files && ltb (second_file_of r) g.files)
    where
      go : (t : Bool) → P (cond t (rule_mark g r (files (first_file_of r)) (files (second_file_of r))) not_judged)
      go true = judged-mark _ _
      go false = not

-- ---- what is told of a mark
module _ (n m : ℕ) (rule : Rule) (offset : ℕ) (kind : ℕ → ℕ) (t : Table) where
  abbrev Numbers : Mark → Type 0
  Numbers x = mark_told (told_of n m rule offset kind t x) ≡ mark_numbers x

  module _ (past : ltb m n ≡ false) where
    held-numbers : Numbers holds
    unfolding told_of told_numbers
    held-numbers = refl

    not-numbers : Numbers not_judged
    unfolding told_of told_numbers
    not-numbers = rw past

    broken-numbers : (b : Break) → Numbers (broken_mark b)
    unfolding told_of shown_of
    broken-numbers b = rw past (shown-mark (searched_in rule) (shown_of rule offset t (broken_mark b)))

  own-told : ltb m n ≡ true → (x : Mark) → (x.kind ≡ 0 → ⊥) → Numbers x
  unfolding told_of told_numbers
  own-told low x some = rw (ne_eqb _ 0 some, low)

module _ (g : Gate) (offset : ℕ → ℕ) (files : ℕ → File) (m : ℕ) where
  pub rule-numbers : g.files ≤ m → mark_told (reason_at g offset files m) ≡ mark_numbers (mark_at g m files)
  unfolding reason_at mark_at
  rule-numbers h =
      let past : ltb m g.files ≡ false = le-ltb m g.files h in
      rw past
      (rule-mark (Numbers g.files m _ _ _ _) (held-numbers _ _ _ _ _ _ past) (not-numbers _ _ _ _ _ _ past) (broken-numbers _ _ _ _ _ _ past) g (rule_of_mark g m) files)

  pub own-numbers : m < g.files → ((mark_at g m files).kind ≡ 0 → ⊥) → mark_told (reason_at g offset files m) ≡ mark_numbers (mark_at g m files)
  unfolding reason_at
  own-numbers h some = own-told g.files m (rule_of_mark g m) _ _ _ (lt-ltb m g.files h) (mark_at g m files) some
