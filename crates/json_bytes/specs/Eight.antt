-- For the code's sake alone: bytes of a list as one number, the first the lowest.
use Rattle.std.specs.Prelude.{ℕ, zero, suc, ◌+◌, ◌*◌, List}
use Rattle.json_bytes.specs.Reads.{byte_at}

-- n bytes, from i on
unfoldable pub packed_at : ℕ → List ℕ → ℕ → ℕ
packed_at zero s i = 0
packed_at (suc n) s i = packed_at n s (i + 1) * 256 + byte_at s i

unfoldable pub eight_at : List ℕ → ℕ → ℕ
eight_at s i = packed_at 8 s i
