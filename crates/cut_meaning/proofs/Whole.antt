-- A value in well-formed UTF-8 is cut between two characters, however long it is.
-- Assumes nothing.
use Prim.Native.Nat.{ℕ, zero, suc, ◌≤◌}
use mathlib.Core.Path.{◌≡◌, refl}
use mathlib.Core.Bool.{Bool, true, false, ◌||◌}
use mathlib.Core.List.{◌∷◌}
use native.Mathlib.Omega.{arith}
use native.Mathlib.Nat.{suc-add}
use borrow.Author.Tests.{le-leb, lt-leb}
use Rattle.json_bytes.specs.Reads.{byte_at, within}
use Rattle.text_place.specs.Place.{is_continuation, is_character}
use Rattle.cut_value.specs.Cut.{cut_length}
use Rattle.cut_value.proofs.Laws.{FewInARow, characters-whole}
use Rattle.grammar.specs.Grammar.{Bytes, Sequence}
use Rattle.cut_meaning.specs.WellFormed.{WellFormed}

-- ---- first bytes
low-starts : (b : ℕ) → b ≤ 0x7F → is_character b ≡ true
unfolding is_character is_continuation within
low-starts b h = rw (lt-leb 128 b (omega arith))

high-starts : (b : ℕ) → 0xC0 ≤ b → is_character b ≡ true
unfolding is_character is_continuation within
high-starts b h = rw (le-leb 128 b (omega arith), lt-leb b 191 (omega arith))

-- ---- a byte in front of others
-- the first byte starts a character, or there is none
abbrev One : Bytes → Type 0
One l = is_character (byte_at l 0) ≡ true

either : (t : Bool) {u : Bool} → u ≡ true → (t || u) ≡ true
either true e = refl
either false e = e

first : {t : Bool} (u : Bool) → t ≡ true → (t || u) ≡ true
first u e = rw e

-- a byte from which on one of four starts a character
behind : (b : ℕ) (l : Bytes) → (is_character b || (is_character (byte_at l 0) || (is_character (byte_at l 1) || is_character (byte_at l 2)))) ≡ true → FewInARow l → FewInARow (b ∷ l)
behind b l here few zero = here
behind b l here few (suc i) = rw (suc-add i 1, suc-add i 2, suc-add i 3) (few i)

started : (b : ℕ) (l : Bytes) → is_character b ≡ true → FewInARow l → FewInARow (b ∷ l)
started b l e few = behind b l (first _ e) few

-- ---- the bytes of one character behind its first, in front of what starts another
module _ (r : Bytes) (one : One r) (few : FewInARow r) where
  last-few : (d : ℕ) → FewInARow (d ∷ r)
  last-few d = behind d r (either (is_character d) (first _ one)) few

  pair-few : (c d : ℕ) → FewInARow (c ∷ d ∷ r)
  pair-few c d = behind c (d ∷ r) (either (is_character c) (either (is_character d) (first _ one))) (last-few d)

  triple-few : (b c d : ℕ) → FewInARow (b ∷ c ∷ d ∷ r)
  triple-few b c d = behind b (c ∷ d ∷ r) (either (is_character b) (either (is_character c) (either (is_character d) one))) (pair-few c d)

  sequence-few : {l : Bytes} {code : ℕ} → Sequence l code r → One l × FewInARow l
  sequence-few (Sequence.from_c2 {a} {b} a-is b-is) = let s = high-starts a (omega arith) in (s, started a (b ∷ r) s (last-few b))
  sequence-few (Sequence.at_e0 {b} {c} b-is c-is) = let s = high-starts 0xE0 (omega arith) in (s, started 0xE0 (b ∷ c ∷ r) s (pair-few b c))
  sequence-few (Sequence.from_e1 {a} {b} {c} a-is b-is c-is) = let s = high-starts a (omega arith) in (s, started a (b ∷ c ∷ r) s (pair-few b c))
  sequence-few (Sequence.at_ed {b} {c} b-is c-is) = let s = high-starts 0xED (omega arith) in (s, started 0xED (b ∷ c ∷ r) s (pair-few b c))
  sequence-few (Sequence.from_ee {a} {b} {c} a-is b-is c-is) = let s = high-starts a (omega arith) in (s, started a (b ∷ c ∷ r) s (pair-few b c))
  sequence-few (Sequence.at_f0 {b} {c} {d} b-is c-is d-is) = let s = high-starts 0xF0 (omega arith) in (s, started 0xF0 (b ∷ c ∷ d ∷ r) s (triple-few b c d))
  sequence-few (Sequence.from_f1 {a} {b} {c} {d} a-is b-is c-is d-is) = let s = high-starts a (omega arith) in (s, started a (b ∷ c ∷ d ∷ r) s (triple-few b c d))
  sequence-few (Sequence.at_f4 {b} {c} {d} b-is c-is d-is) = let s = high-starts 0xF4 (omega arith) in (s, started 0xF4 (b ∷ c ∷ d ∷ r) s (triple-few b c d))

-- ---- a whole text
text-few : {l : Bytes} → WellFormed l → One l × FewInARow l
text-few WellFormed.nothing = (low-starts 0 (omega arith), λ i. first _ (low-starts 0 (omega arith)))
text-few (WellFormed.single {b} {r} b-is more) = let s = low-starts b b-is.1 in (s, started b r s (text-few more).1)
text-few (WellFormed.several {l} {r} s more) = sequence-few r (text-few more).0 (text-few more).1 s

-- the byte behind the cut starts a character, or the value is not cut
pub cut-between : (value : Bytes) → WellFormed value → is_character (byte_at value (cut_length value)) ≡ true
cut-between value well = characters-whole value (text-few well).1
