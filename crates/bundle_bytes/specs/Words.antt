-- Document 01, "The bundle": "Little-endian 32-bit numbers".
use Rattle.std.specs.Prelude.{ℕ, ◌+◌, ◌*◌, ◌/◌, ◌%◌, List, [], ◌∷◌}
use Rattle.json_bytes.specs.Reads.{byte_at}

-- the number that stands at a place; a byte past the end counts 0
unfoldable pub word_at : List ℕ → ℕ → ℕ
word_at s i = byte_at s i + byte_at s (i + 1) * 256 + byte_at s (i + 2) * 65536 + byte_at s (i + 3) * 16777216

-- the four bytes of a number
unfoldable pub word_of : ℕ → List ℕ
word_of x = x % 256 ∷ x / 256 % 256 ∷ x / 65536 % 256 ∷ x / 16777216 % 256 ∷ []
