-- What the writers put into the slots of a sentence, and a sentence sign by sign.
-- Assumes nothing.
use Prim.Native.Nat.{ℕ, ◌+◌, ◌-◌, ◌≤◌, ◌<◌}
use mathlib.Core.Path.{◌≡◌, refl, sym, ap, ◌∙◌}
use mathlib.Core.Bool.{Bool, true, false}
use mathlib.Core.List.{List, [], ◌∷◌, flatten, append-nil}
use native.Mathlib.Numerals.{add-one}
use native.Mathlib.Omega.{arith}
use borrow.Author.Tests.{lt-ltb, le-ltb, eq-eqb, ne_eqb, leb-false}
use lib.ListN.{length, get_or, take, drop, drop_of_length-le}
use lib.Seq.{drop-cons}
use lib.Dec.{leb}
use Rattle.parts.specs.Part.{part_of}
use Rattle.parts.proofs.Laws.{part-is}
use Rattle.json_bytes.specs.Ascii.{codes}
use Rattle.cut_value.specs.Cut.{cut_length}
use Rattle.cut_value.proofs.Laws.{at-most-80}
use Rattle.output.specs.Decimal.{decimal}
use Rattle.output.specs.Output.{Output, put}
use Rattle.output.proofs.Puts.{put_then}
use Rattle.gate_lists.specs.declared.Which.{Which}
use Rattle.wording.specs.declared.Slots.{Slots}
use Rattle.wording.specs.Wording.{value_text, companion_text, spot_text, slot_text, filled}

-- ---- a value: none, whole, cut
cut-within : (value : List ℕ) → cut_length value ≤ length value
unfolding cut_length
cut-within value = go (leb (length value) 80) refl
  where
    go : (t : Bool) → leb (length value) 80 ≡ t → cut_length value ≤ length value
    go true e = rw e (omega arith)
    go false e = omega (arith, leb-false (length value) 80 e, at-most-80 value)

module _ (value : List ℕ) (o : Output) where
  pub null-put : length value ≡ 0 → {p : Output} → p ≡ put o (codes "null") → p ≡ put o (value_text value)
  unfolding value_text
  null-put z e = rw (eq-eqb (length value) 0 z) e

  module _ (given : length value ≡ 0 → ⊥) {cut : ℕ} (c : cut ≡ cut_length value) {r : List ℕ} (f : r ≡ part_of value 0 cut) {p : Output} (e : p ≡ put o r) where
    front : r ≡ take (cut_length value) value
    front =
        let all : cut_length value - 0 ≡ cut_length value = omega arith in
        f ∙ rw c (part-is value 0 (cut_length value) (omega arith) (cut-within value) ∙ ap (λ n. take n value) all)

    pub cut-put : cut < length value → {q : Output} → q ≡ put p (codes "...") → q ≡ put o (value_text value)
    unfolding value_text
    cut-put l h =
        rw (ne_eqb (length value) 0 given, lt-ltb (cut_length value) (length value) (omega arith)) (put_then o (take (cut_length value) value) (codes "...") (e ∙ ap (put o) front) h)

    pub whole-put : length value ≤ cut → p ≡ put o (value_text value)
    unfolding value_text
    whole-put l =
        rw (ne_eqb (length value) 0 given, le-ltb (cut_length value) (length value) (omega arith), append-nil (take (cut_length value) value)) (e ∙ ap (put o) front)

-- ---- a companion, and a place
module _ (companion : ℕ) (o : Output) where
  pub none-put : companion ≡ 0 → {p : Output} → p ≡ put o (codes "none") → p ≡ put o (companion_text companion)
  unfolding companion_text
  none-put z e = rw (eq-eqb companion 0 z) e

  pub companion-put : (companion ≡ 0 → ⊥) → {p q : Output} → p ≡ put o (codes "record ") → q ≡ put p (decimal companion) → q ≡ put o (companion_text companion)
  unfolding companion_text
  companion-put z e h = rw (ne_eqb companion 0 z) (put_then o (codes "record ") (decimal companion) e h)

pub spot-put : (line column : ℕ) (o : Output) {p q r s : Output} → p ≡ put o (codes "line ") → q ≡ put p (decimal line) → r ≡ put q (codes ", column ") → s ≡ put r (decimal column) → s ≡ put o (spot_text line column)
unfolding spot_text
spot-put line column o e f g h =
    put_then o _ (decimal column) (put_then o _ (codes ", column ") (put_then o (codes "line ") (decimal line) e f) g) h

-- ---- a sign, by which it is
module _ (which : Which) (slots : Slots) (value : List ℕ) (o : Output) {p : Output} where
  pub sign-put : (sign slot : ℕ) {text : List ℕ} → slot_text which slots value slot ≡ text → sign ≡ slot → p ≡ put o text → p ≡ put o (slot_text which slots value sign)
  sign-put sign slot t e h = h ∙ ap (put o) (sym t ∙ ap (slot_text which slots value) (sym e))

  pub other-put : (sign : ℕ) → (sign ≡ 64 → ⊥) → (sign ≡ 33 → ⊥) → (sign ≡ 35 → ⊥) → (sign ≡ 36 → ⊥) → (sign ≡ 37 → ⊥) → (sign ≡ 38 → ⊥) → (sign ≡ 94 → ⊥) → (sign ≡ 126 → ⊥) → p ≡ put o (sign ∷ []) → p ≡ put o (slot_text which slots value sign)
  unfolding slot_text
  other-put sign a b c d e f g i h =
      rw (ne_eqb sign 64 a, ne_eqb sign 33 b, ne_eqb sign 35 c, ne_eqb sign 36 d, ne_eqb sign 37 e, ne_eqb sign 38 f, ne_eqb sign 94 g, ne_eqb sign 126 i) h

-- ---- a sentence as a loop goes over its signs: what is left of it, put behind what was
module _ (which : Which) (slots : Slots) (value sentence : List ℕ) (i : ℕ) (o : Output) where
  pub filled_next : i < length sentence → {p q : Output} → p ≡ put o (slot_text which slots value (get_or sentence i 0)) → put o (filled which slots value (drop i sentence)) ≡ q → put p (filled which slots value (drop (i + 1) sentence)) ≡ q
  unfolding filled flatten
  filled_next l e h =
      put_then o (slot_text which slots value (get_or sentence i 0)) (filled which slots value (drop (i + 1) sentence)) e refl
      ∙ rw (add-one i) (rw (drop-cons sentence i 0 l) at h)

  pub filled-end : length sentence ≤ i → {q : Output} → put o (filled which slots value (drop i sentence)) ≡ q → o ≡ q
  unfolding filled flatten put
  filled-end l h = rw (drop_of_length-le sentence {i = i} l) at h
