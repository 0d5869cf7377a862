-- Well-formed UTF-8, the Unicode Standard, table 3-7: bytes below 0x80, and sequences of two to four bytes, one behind the other.
use Rattle.std.specs.Prelude.{[], ◌∷◌, ℕ}
use Rattle.grammar.specs.Grammar.{Bytes, From, Sequence}

pub data WellFormed : Bytes → Type 0 where
  nothing : WellFormed []
  single : {b : ℕ} {r : Bytes} → From 0x00 0x7F b → WellFormed r → WellFormed (b ∷ r)
  several : {l r : Bytes} {c : ℕ} → Sequence l c r → WellFormed r → WellFormed l
