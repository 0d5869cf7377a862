-- Bytes that stand in a file.
use Rattle.std.specs.Prelude.{ℕ, ◌+◌, ◌≡◌, List, length, take, drop}

-- from a place of the file on, and up to another
pub record Stands (s : List ℕ) (i : ℕ) (bytes : List ℕ) (next : ℕ) : Type 0 where
  pub there : take (length bytes) (drop i s) ≡ bytes
  pub ends : next ≡ i + length bytes
