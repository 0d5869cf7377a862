-- What the grammar has and what it has not, by cases. The machine finds a text fine exactly if it is one, so that each case
-- is decided by computation.
-- Assumes nothing.
use Prim.Native.Nat.{ℕ}
use mathlib.Core.Path.{◌≡◌, refl}
use mathlib.Core.Bool.{Bool, true, false, not, ◌&&◌}
use mathlib.Core.List.{List, [], ◌∷◌}
use native.Mathlib.Omega.{arith}
use borrow.Author.Tests.{not-true}
use Rattle.json_bytes.specs.Reads.{within}
use Rattle.json_bytes.proofs.Laws.{both_left, both_right}
use Rattle.grammar.specs.Grammar.{Bytes, Text}
use Rattle.grammar_machine.proofs.Machine.{a_text, row_of, settle, Verdict, Fine, Stops, ends, verdict}
use Rattle.grammar_machine.proofs.Run.{sound}
use Rattle.grammar_machine.proofs.Facts.{text-reads}

abbrev is_fine : Verdict → Bool
is_fine Fine = true
is_fine (Stops why r) = false

fine-is : (v : Verdict) → is_fine v ≡ true → v ≡ Fine
fine-is Fine e = refl
fine-is (Stops why r) e = cc

text-if : (l : Bytes) → is_fine (verdict a_text l) ≡ true → Text l
text-if l e = text-reads.sound l (sound l a_text (fine-is (verdict a_text l) e))

no_text : (l : Bytes) → is_fine (verdict a_text l) ≡ false → Text l → ⊥
no_text l e t =
    let f : verdict a_text l ≡ Fine = text-reads.complete l t in
    let z : ◌≡◌ {A = Bool} true false = rw f at e in
    let y : ◌≡◌ {A = ℕ} 0 1 = cc in
    omega arith

abbrev Each : (Bytes → Type 0) → List Bytes → Type 0
Each X [] = Unit {0}
Each X (l ∷ ls) = X l × Each X ls

abbrev all : (Bytes → Bool) → List Bytes → Bool
all f [] = true
all f (l ∷ ls) = f l && all f ls

-- one test for each of a list
each : (X : Bytes → Type 0) (f : Bytes → Bool) → ((l : Bytes) → f l ≡ true → X l) → (ls : List Bytes) → all f ls ≡ true → Each X ls
each X f is [] e = tt
each X f is (l ∷ ls) e = (is l (both_left (f l) (all f ls) e), each X f is ls (both_right (f l) (all f ls) e))

abbrev texts : List Bytes
texts =
    (0x6E ∷ 0x75 ∷ 0x6C ∷ 0x6C ∷ []) ∷  -- a literal by itself
    (0x20 ∷ 0x5B ∷ 0x20 ∷ 0x5D ∷ 0x20 ∷ 0x0A ∷ []) ∷  -- spaces around any token
    (0x7B ∷ 0x22 ∷ 0x61 ∷ 0x22 ∷ 0x3A ∷ 0x5B ∷ 0x2D ∷ 0x30 ∷ 0x2E ∷ 0x35 ∷ 0x65 ∷ 0x2B ∷ 0x31 ∷ 0x30 ∷ 0x2C ∷ 0x22 ∷ 0x22 ∷ 0x5D ∷ 0x7D ∷ []) ∷  -- a number with all its parts
    (0x22 ∷ 0x5C ∷ 0x75 ∷ 0x30 ∷ 0x30 ∷ 0x65 ∷ 0x39 ∷ 0x5C ∷ 0x6E ∷ 0x5C ∷ 0x2F ∷ 0x22 ∷ []) ∷  -- escapes
    (0x22 ∷ 0xC3 ∷ 0xA9 ∷ 0xE2 ∷ 0x82 ∷ 0xAC ∷ 0xF0 ∷ 0x9F ∷ 0x98 ∷ 0x80 ∷ 0x22 ∷ []) ∷  -- sequences of two, three and four bytes
    (0x5B ∷ 0x5B ∷ 0x7B ∷ 0x7D ∷ 0x5D ∷ 0x2C ∷ 0x22 ∷ 0x7F ∷ 0x22 ∷ 0x5D ∷ []) ∷  -- nested; DEL is no control character of the grammar
    (0x22 ∷ 0x5C ∷ 0x75 ∷ 0x44 ∷ 0x38 ∷ 0x30 ∷ 0x30 ∷ 0x22 ∷ []) ∷  -- an unpaired surrogate escape
    (0x5B ∷ 0x30 ∷ 0x2C ∷ 0x2D ∷ 0x30 ∷ 0x2C ∷ 0x31 ∷ 0x30 ∷ 0x5D ∷ []) ∷  -- zero with a sign
    []

abbrev others : List Bytes
others =
    ([]) ∷  -- nothing
    (0x5B ∷ 0x31 ∷ 0x2C ∷ 0x5D ∷ []) ∷  -- a comma before the bracket
    (0x30 ∷ 0x31 ∷ []) ∷  -- a superfluous zero
    (0x31 ∷ 0x2E ∷ []) ∷  -- no digit behind the point
    (0x2B ∷ 0x31 ∷ []) ∷  -- a plus before a number
    (0x31 ∷ 0x65 ∷ []) ∷  -- no digit in the exponent
    (0x6E ∷ 0x75 ∷ 0x6C ∷ []) ∷  -- a literal cut off
    (0x22 ∷ 0x1F ∷ 0x22 ∷ []) ∷  -- a control character
    (0x22 ∷ 0x5C ∷ 0x78 ∷ 0x22 ∷ []) ∷  -- no escape
    (0x22 ∷ 0x5C ∷ 0x75 ∷ 0x31 ∷ 0x32 ∷ 0x67 ∷ 0x34 ∷ 0x22 ∷ []) ∷  -- no hexadecimal digit
    (0x22 ∷ 0xC0 ∷ 0x80 ∷ 0x22 ∷ []) ∷  -- an over-long sequence
    (0x22 ∷ 0xE0 ∷ 0x9F ∷ 0xBF ∷ 0x22 ∷ []) ∷  -- another
    (0x22 ∷ 0xED ∷ 0xA0 ∷ 0x80 ∷ 0x22 ∷ []) ∷  -- a surrogate in UTF-8
    (0x22 ∷ 0xF4 ∷ 0x90 ∷ 0x80 ∷ 0x80 ∷ 0x22 ∷ []) ∷  -- beyond the last plane
    (0x22 ∷ 0xC3 ∷ []) ∷  -- a sequence cut off
    (0x7B ∷ 0x22 ∷ 0x61 ∷ 0x22 ∷ 0x20 ∷ 0x31 ∷ 0x7D ∷ []) ∷  -- no colon
    (0x7B ∷ 0x61 ∷ 0x3A ∷ 0x31 ∷ 0x7D ∷ []) ∷  -- a name without quotes
    (0x5B ∷ 0x31 ∷ 0x5D ∷ 0x20 ∷ 0x32 ∷ []) ∷  -- something behind the value
    (0x5B ∷ 0x31 ∷ 0xC2 ∷ 0xA0 ∷ 0x5D ∷ []) ∷  -- a no-break space
    (0xEF ∷ 0xBB ∷ 0xBF ∷ 0x31 ∷ []) ∷  -- a byte order mark
    []

pub are-texts : Each Text texts
unfolding verdict settle row_of ends within
are-texts = each Text (λ l. is_fine (verdict a_text l)) text-if texts refl

pub are-none : Each (λ l. Text l → ⊥) others
unfolding verdict settle row_of ends within
are-none = each (λ l. Text l → ⊥) (λ l. not (is_fine (verdict a_text l))) (λ l e. no_text l (not-true _ e)) others refl
