-- Small cases, computed from the definitions.
-- Assumes nothing.
use Prim.Native.Nat.{ℕ}
use mathlib.Core.Path.{◌≡◌, refl}
use mathlib.Core.List.{List, [], ◌∷◌}
use Rattle.number_search.proofs.Opens.{open-search}
use Rattle.number_search.specs.Search.{below, searched}

abbrev four : List ℕ
four = 2 ∷ 3 ∷ 3 ∷ 7 ∷ []

-- before all, before a number that stands twice, between two, and behind all
pub places : (searched (below 0) four ∷ searched (below 3) four ∷ searched (below 4) four ∷ searched (below 9) four ∷ searched (below 9) [] ∷ []) ≡ (0 ∷ 1 ∷ 3 ∷ 4 ∷ 0 ∷ [])
unfolding open-search
places = refl
