-- For the code's sake: an output as it is written from a place on. A byte goes where there is room for it, and else nowhere, so
-- that no writer asks for room.
use Rattle.std.specs.Prelude.{ℕ, ◌+◌, cond, List, [], ◌∷◌, ◌++◌, length, set, ltb}
use Rattle.output.specs.Decimal.{decimal}

pub record Output : Type 0 where
  pub bytes : List ℕ
  pub place : ℕ

abbrev pub output_at : List ℕ → ℕ → Output
output_at bytes place = record { bytes = bytes; place = place }

unfoldable pub put_byte : Output → ℕ → Output
put_byte o b = cond (ltb o.place (length o.bytes)) (output_at (set o.bytes o.place b) (o.place + 1)) o

-- a text, byte by byte
unfoldable pub put : Output → List ℕ → Output
put o [] = o
put o (b ∷ text) = put (put_byte o b) text

-- a number with a byte behind it
abbrev pub ended : ℕ → ℕ → List ℕ
ended x end = decimal x ++ (end ∷ [])
