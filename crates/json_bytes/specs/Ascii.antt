-- A word as bytes: the literals of JSON and every name of the documents are ASCII, where a character's number is its one byte.
use Rattle.std.specs.Prelude.{ℕ, List, [], ◌∷◌}
use Prim.Native.Char.{code}
use Prim.Native.String.{String, [] as end, ◌∷◌ as ◌then◌}

unfoldable pub codes : String → List ℕ
codes end = []
codes (c then s) = code c ∷ codes s
