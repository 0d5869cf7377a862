-- Where values are cut, by computing.
use Prim.Native.Nat.{ℕ}
use mathlib.Core.Path.{◌≡◌, refl}
use mathlib.Core.List.{List, [], ◌∷◌, ◌++◌, map}
use lib.ListN.{replicate}
use Rattle.cut_value.specs.Cut.{cut_length}
use Rattle.cut_value.proofs.Opens.{open-cut}

-- a character of four bytes behind n letters, and letters behind it
abbrev behind : ℕ → List ℕ
behind n = replicate n 97 ++ (240 ∷ 159 ∷ 146 ∷ 161 ∷ []) ++ replicate 9 97

cuts : map (λ n. cut_length (behind n)) (3 ∷ 67 ∷ 68 ∷ 75 ∷ 76 ∷ 77 ∷ 78 ∷ 79 ∷ 80 ∷ []) ≡ 16 ∷ 80 ∷ 80 ∷ 80 ∷ 80 ∷ 77 ∷ 78 ∷ 79 ∷ 80 ∷ []
unfolding open-cut
cuts = refl
