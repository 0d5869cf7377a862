-- Spots by computing.
use Prim.Native.Nat.{ℕ}
use mathlib.Core.Path.{◌≡◌, refl}
use mathlib.Core.List.{List, [], ◌∷◌, map}
use Rattle.text_place.specs.Place.{spot_at}
use Rattle.text_place.proofs.Opens.{open-place}

-- a letter, a line feed, an é of two bytes, a letter
abbrev text : List ℕ
text = 97 ∷ 10 ∷ 195 ∷ 169 ∷ 98 ∷ []

-- "Line: 1 and the line feeds before the place. Column: 1 and the characters between": the second byte of a character counts
-- as behind it, and every place past the end stands at the end
lines : map (λ n. (spot_at text n).line) (0 ∷ 1 ∷ 2 ∷ 3 ∷ 4 ∷ 5 ∷ 6 ∷ []) ≡ 1 ∷ 1 ∷ 2 ∷ 2 ∷ 2 ∷ 2 ∷ 2 ∷ []
unfolding open-place
lines = refl

columns : map (λ n. (spot_at text n).column) (0 ∷ 1 ∷ 2 ∷ 3 ∷ 4 ∷ 5 ∷ 6 ∷ []) ≡ 1 ∷ 2 ∷ 1 ∷ 2 ∷ 2 ∷ 3 ∷ 3 ∷ []
unfolding open-place
columns = refl
