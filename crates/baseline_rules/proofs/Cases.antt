-- Which marks a changed file touches under the profile, and which fields marks 81 to 84 speak of, by the names of document 002.
-- Assumes nothing.
use mathlib.Core.Path.{◌≡◌, refl}
use mathlib.Core.List.{[], ◌∷◌}
use Rattle.schedule_rules.proofs.Cases.{readers}
use Rattle.baseline_rules.specs.Rules.{baseline_rules}
use Rattle.baseline_rules.proofs.Opens.{open-baseline-rows}

-- beside its own mark, a changed file 10 touches 81 to 83 as well, and a changed file 19 touches 84
pub data-read : readers 10 baseline_rules 20 ≡ 26 ∷ 51 ∷ 52 ∷ 73 ∷ 75 ∷ 81 ∷ 82 ∷ 83 ∷ []
unfolding open-baseline-rows readers
data-read = refl

pub assignments-read : readers 19 baseline_rules 20 ≡ 35 ∷ 63 ∷ 64 ∷ 84 ∷ []
unfolding open-baseline-rows readers
assignments-read = refl
