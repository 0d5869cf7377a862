-- Worked cases of document 01, computed from the definitions.
-- Assumes nothing.
use Prim.Native.Nat.{ℕ}
use mathlib.Core.Path.{◌≡◌, refl}
use mathlib.Core.Bool.{true, false}
use mathlib.Core.List.{List, [], ◌∷◌}
use Rattle.json_same.proofs.Opens.{open-same}
use Rattle.json_chars.specs.Chars.{chars_at}
use Rattle.json_same.specs.declared.Case.TheVariants.{Kept, Folded}
use Rattle.json_same.specs.Same.{same_as}

-- `"ENG-01"`, `"eng-01"`, `"eng-0"`, `"\u0049D"`, `"id"`, and the name `ID`
abbrev upper : List ℕ
upper = 34 ∷ 69 ∷ 78 ∷ 71 ∷ 45 ∷ 48 ∷ 49 ∷ 34 ∷ []

abbrev lower : List ℕ
lower = 34 ∷ 101 ∷ 110 ∷ 103 ∷ 45 ∷ 48 ∷ 49 ∷ 34 ∷ []

abbrev shorter : List ℕ
shorter = 34 ∷ 101 ∷ 110 ∷ 103 ∷ 45 ∷ 48 ∷ 34 ∷ []

abbrev escaped : List ℕ
escaped = 34 ∷ 92 ∷ 117 ∷ 48 ∷ 48 ∷ 52 ∷ 57 ∷ 68 ∷ 34 ∷ []

abbrev small : List ℕ
small = 34 ∷ 105 ∷ 100 ∷ 34 ∷ []

abbrev name : List ℕ
name = 73 ∷ 68 ∷ []

-- P1: `ENG-01` and `eng-01` are one ID, and two names; a string is not the same as a beginning of it
pub ids : (same_as Folded (chars_at upper 0) (chars_at lower 0) ∷ same_as Kept (chars_at upper 0) (chars_at lower 0) ∷ same_as Folded (chars_at shorter 0) (chars_at lower 0) ∷ []) ≡ (true ∷ false ∷ false ∷ [])
unfolding open-same
ids = refl

-- decoded, `\u0049D` is `ID`; `id` is not, as a name
pub names : (same_as Kept (chars_at escaped 0) name ∷ same_as Kept (chars_at small 0) name ∷ same_as Folded (chars_at small 0) name ∷ []) ≡ (true ∷ false ∷ true ∷ [])
unfolding open-same
names = refl
