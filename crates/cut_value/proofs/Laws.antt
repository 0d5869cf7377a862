-- A cut value is short, and no character of it is cut in two.
-- Assumes nothing.
use Prim.Native.Nat.{ℕ, ◌+◌, ◌≤◌}
use mathlib.Core.Path.{◌≡◌, refl, ◌∙◌}
use mathlib.Core.Bool.{Bool, true, false, cond, ◌||◌}
use mathlib.Core.List.{List}
use native.Mathlib.Omega.{arith}
use borrow.Author.Tests.{leb-true}
use lib.ListN.{length, get_or-eq_default}
use lib.Dec.{leb}
use Rattle.json_bytes.specs.Reads.{byte_at}
use Rattle.text_place.specs.Place.{is_character}
use Rattle.text_place.proofs.Opens.{open-place}
use Rattle.cut_value.specs.Cut.{cut_within, cut_length}

module _ (value : List ℕ) where
  -- ---- at most 80 bytes are shown, and a value of up to 80 whole
  within-80 : cut_within value ≤ 80
  unfolding cut_within
  within-80 = go (is_character (byte_at value 80)) (is_character (byte_at value 79)) (is_character (byte_at value 78))
    where
      go : (a b c : Bool) → cond a 80 (cond b 79 (cond c 78 77)) ≤ 80
      go true b c = omega arith
      go false true c = omega arith
      go false false true = omega arith
      go false false false = omega arith

  pub at-most-80 : cut_length value ≤ 80
  unfolding cut_length
  at-most-80 = go (leb (length value) 80) refl
    where
      go : (t : Bool) → leb (length value) 80 ≡ t → cond t (length value) (cut_within value) ≤ 80
      go true e = leb-true _ 80 e
      go false e = within-80

  -- ---- what is cut ends with a character's end: the byte behind it starts another, or there is none
  -- UTF-8: a character has at most four bytes, so that of any four in a row one starts a character, or the text is over
  abbrev pub FewInARow : Type 0
  FewInARow = (i : ℕ) → (is_character (byte_at value i) || (is_character (byte_at value (i + 1)) || (is_character (byte_at value (i + 2)) || is_character (byte_at value (i + 3))))) ≡ true

  whole-within : FewInARow → is_character (byte_at value (cut_within value)) ≡ true
  unfolding cut_within
  whole-within few = go (is_character (byte_at value 80)) (is_character (byte_at value 79)) (is_character (byte_at value 78)) (is_character (byte_at value 77)) refl refl refl refl (few 77)
    where
      last : (d : Bool) → (d || false) ≡ true → d ≡ true
      last true e = refl
      last false e = e

      go : (a b c d : Bool) → is_character (byte_at value 80) ≡ a → is_character (byte_at value 79) ≡ b → is_character (byte_at value 78) ≡ c → is_character (byte_at value 77) ≡ d → (d || (c || (b || a))) ≡ true → is_character (byte_at value (cond a 80 (cond b 79 (cond c 78 77)))) ≡ true
      go true b c d p q r s e = p
      go false true c d p q r s e = q
      go false false true d p q r s e = r
      go false false false d p q r s e = s ∙ last d e

  at-end : is_character (byte_at value (length value)) ≡ true
  unfolding open-place
  at-end = rw (get_or-eq_default value 0 {n = length value} (omega arith))

  pub characters-whole : FewInARow → is_character (byte_at value (cut_length value)) ≡ true
  unfolding cut_length
  characters-whole few = go (leb (length value) 80)
    where
      go : (t : Bool) → is_character (byte_at value (cond t (length value) (cut_within value))) ≡ true
      go true = at-end
      go false = whole-within few
