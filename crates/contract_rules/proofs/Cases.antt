-- Which marks a changed file touches, beside its own.
-- Assumes nothing.
use mathlib.Core.Path.{◌≡◌, refl}
use mathlib.Core.List.{List, [], ◌∷◌, map}
use Prim.Native.Nat.{ℕ}
use Rattle.schedule_rules.proofs.Cases.{readers}
use Rattle.contract_rules.specs.Rules.{contract_rules}
use Rattle.contract_rules.proofs.Opens.{open-contract-rows}

-- "a rule reads the tables it compares"
abbrev touched : List (List ℕ)
touched =
    (4 ∷ 8 ∷ [])
    ∷ (5 ∷ 9 ∷ 11 ∷ 13 ∷ 15 ∷ 17 ∷ [])
    ∷ (6 ∷ 8 ∷ 10 ∷ 12 ∷ 14 ∷ 16 ∷ 18 ∷ [])
    ∷ (7 ∷ 11 ∷ 12 ∷ 17 ∷ 18 ∷ [])
    ∷ []

pub files-read : map (λ file. readers file contract_rules 4) (0 ∷ 1 ∷ 2 ∷ 3 ∷ []) ≡ touched
unfolding open-contract-rows readers
files-read = refl
