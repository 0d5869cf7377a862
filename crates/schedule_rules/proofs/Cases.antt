-- P12: beside its own mark, a changed file 9 touches marks 25, 39–42, 51, 53, 55–57, 59, 60, 64, 71–74 and 80.
-- Assumes nothing.
use Prim.Native.Nat.{ℕ, suc}
use mathlib.Core.Path.{◌≡◌, refl}
use mathlib.Core.Bool.{true, false}
use mathlib.Core.List.{List, [], ◌∷◌}
use Rattle.rule_shape.specs.declared.Rule.{Rule}
use Rattle.rule_shape.specs.Rule.{reads}
use Rattle.schedule_rules.specs.Rules.{rules}
use Rattle.schedule_rules.proofs.Opens.{open-rows}

-- the marks of the rules that read a file, where the first rule has mark m
unfoldable pub readers : ℕ → List Rule → ℕ → List ℕ
readers file [] m = []
readers file (r ∷ rs) m = elim (reads r file) [ true ↦ m ∷ readers file rs (suc m) | false ↦ readers file rs (suc m) ]

pub tasks-read : readers 9 rules 20 ≡ 25 ∷ 39 ∷ 40 ∷ 41 ∷ 42 ∷ 51 ∷ 53 ∷ 55 ∷ 56 ∷ 57 ∷ 59 ∷ 60 ∷ 64 ∷ 71 ∷ 72 ∷ 73 ∷ 74 ∷ 80 ∷ []
unfolding open-rows readers
tasks-read = refl
