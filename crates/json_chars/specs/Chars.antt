-- The decoded characters of a string, in order.
use Rattle.std.specs.Prelude.{ℕ, zero, suc, ◌+◌, cond, List, [], ◌∷◌, length, eqb}
use Rattle.json_bytes.specs.Reads.{byte_at}
use Rattle.json_chars.specs.Step.{step_at}
use Rattle.json_chars.specs.declared.Step.TheVariants.{Char, Close, Bad}

-- the characters from a place inside a string on, up to its closing quote or a fault; no string has more than its file has bytes
unfoldable pub chars_from : ℕ → List ℕ → ℕ → List ℕ
chars_from zero s i = []
chars_from (suc f) s i = elim (step_at s i) [ Char code next ↦ code ∷ chars_from f s next | Close ↦ [] | Bad kind place ↦ [] ]

-- the characters of the string whose opening quote stands at a place; none where no quote stands there
unfoldable pub chars_at : List ℕ → ℕ → List ℕ
chars_at s at = cond (eqb (byte_at s at) 34) (chars_from (length s) s (at + 1)) []
