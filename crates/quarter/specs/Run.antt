-- Sets taken one after the other, and sets in another order.
use Rattle.std.specs.Prelude.{ℕ, ◌≡◌, List, [], ◌∷◌}
use Rattle.quarter.specs.declared.Quarter.{Quarter}
use Rattle.quarter.specs.Quarter.{taken}

-- each from the state that the one before left
unfoldable pub after_sets : List (List ℕ) → Quarter → Quarter
after_sets [] q = q
after_sets (s ∷ sets) q = after_sets sets (taken q s).quarter

-- no call of the run is refused
abbrev pub NoneRefused : List (List ℕ) → Quarter → Type 0
NoneRefused [] q = Unit {0}
NoneRefused (s ∷ sets) q = ((taken q s).refusal ≡ 0) × NoneRefused sets (taken q s).quarter

-- the same entries in another order
pub data Reordered {A : Type 0} : List A → List A → Type 0 where
  None : Reordered [] []
  Kept : {x : A} {l m : List A} → Reordered l m → Reordered (x ∷ l) (x ∷ m)
  Swapped : {x y : A} {l : List A} → Reordered (x ∷ y ∷ l) (y ∷ x ∷ l)
  Then : {l m n : List A} → Reordered l m → Reordered m n → Reordered l n
