-- UTF-8 as the Unicode Standard has it, and what it is for a character to stand in a file as itself.
use Rattle.std.specs.Prelude.{ℕ, ◌+◌, ◌/◌, ◌%◌, ◌≤◌, ◌≡◌, Bool, true, false, cond, ◌||◌, List, [], ◌∷◌, leb, Ok}
use Rattle.json_bytes.specs.Reads.{byte_at, within}
use Rattle.json_chars.specs.Step.{unit_at, escaped_at, is_pair}
use Rattle.json_meaning.specs.Stands.{Stands}

-- the Standard, D76: a scalar value is a code point, from 0 to 10FFFF, that is no surrogate
unfoldable pub is_scalar : ℕ → Bool
is_scalar code = within 0 0xD7FF code || within 0xE000 0x10FFFF code

unfoldable pub is_surrogate : ℕ → Bool
is_surrogate code = within 0xD800 0xDFFF code

-- the Standard, table 3-6: the bits of a code go to one byte, or to a first byte and six by six to those that follow
abbrev pub following : ℕ → ℕ
following bits = 0x80 + bits % 64

unfoldable pub encoded : ℕ → List ℕ
encoded code =
    cond (leb code 0x7F) (code ∷ [])
    (cond (leb code 0x7FF) ((0xC0 + code / 64) ∷ following code ∷ [])
    (cond (leb code 0xFFFF) ((0xE0 + code / 4096) ∷ following (code / 64) ∷ following code ∷ [])
    ((0xF0 + code / 262144) ∷ following (code / 4096) ∷ following (code / 64) ∷ following code ∷ [])))

-- the encoding of a scalar value stands at a place of a file, and ends at another
pub record EncodedAt (s : List ℕ) (i code next : ℕ) : Type 0 where
  pub scalar : is_scalar code ≡ true
  pub stands : Stands s i (encoded code) next

-- ECMA-404: any character may stand for itself in a string but the quote, the backslash and those below U+0020
pub record Raw (s : List ℕ) (i code next : ℕ) : Type 0 where
  pub encoding : EncodedAt s i code next
  pub no-control : 0x20 ≤ code
  pub no-quote : code ≡ 0x22 → ⊥
  pub no-backslash : code ≡ 0x5C → ⊥

-- an escape of four digits that stands for a surrogate, and makes no pair with what is right behind it
pub record Unpaired (s : List ℕ) (i code next : ℕ) : Type 0 where
  pub surrogate : is_surrogate code ≡ true
  pub backslash : byte_at s i ≡ 0x5C
  pub letter : byte_at s (i + 1) ≡ 0x75
  pub digits : unit_at s (i + 2) ≡ Ok code
  pub alone : is_pair code (escaped_at s (i + 6)) ≡ false
  pub ends : next ≡ i + 6
