-- What is said of the bytes of a file and an X of the grammar: where an X ends, and where none can go on. The bytes from a start
-- up to, and without, a place are `slice start place s`.
use Rattle.std.specs.Prelude.{ℕ, ◌+◌, ◌≤◌, ◌<◌, List, [], ◌++◌, length, get_or, drop}
use Rattle.std.proofs.Math.Seq.{slice}
use Rattle.grammar.specs.Grammar.{Bytes, Character, String, Begins}

-- an X with nothing behind it
abbrev pub Only : (Bytes → Bytes → Type 0) → Bytes → Type 0
Only X l = X l []

-- a string, whatever its characters
abbrev pub AString : Bytes → Bytes → Type 0
AString l r = (cs : List ℕ) × String l cs r

-- the bytes up to an end are an X, and none begins with these and the byte behind them
pub record Longest (X : Bytes → Type 0) (s : Bytes) (start end : ℕ) : Type 0 where
  pub is_one : X (slice start end s)
  pub no_longer : end < length s → Begins X (slice start (end + 1) s) → ⊥

-- the bytes before a place begin an X, none begins with these and the byte there, and all there is is none
pub record StopsAt (X : Bytes → Type 0) (s : Bytes) (start place : ℕ) : Type 0 where
  pub begins : Begins X (slice start place s)
  pub no_further : place < length s → Begins X (slice start (place + 1) s) → ⊥
  pub not_whole : X (drop start s) → ⊥

-- a place inside a string, where any character may stand, and there a byte from 80 on with which none begins
pub record BrokenAt (X : Bytes → Type 0) (s : Bytes) (start place : ℕ) : Type 0 where
  pub in_string : (l : Bytes) (c : ℕ) → Character l c [] → Begins X (slice start place s ++ l)
  pub no_character : (c : ℕ) (r : Bytes) → Character (drop place s) c r → ⊥
  pub high_byte : 0x80 ≤ get_or s place 0
  pub not_whole : X (drop start s) → ⊥
