-- Which kinds reading a number can give: 11 alone.
-- Assumes nothing.
use Prim.Native.Nat.{ℕ, ◌+◌}
use mathlib.Core.Path.{◌≡◌, refl}
use mathlib.Core.Bool.{Bool}
use mathlib.Core.List.{List, [], ◌∷◌, map}
use lib.Dec.{eqb}
use Rattle.json_bytes.specs.Reads.{byte_at, fault_at}
use Rattle.json_bytes.proofs.Laws.{either}
use Rattle.json_bytes.proofs.FaultKinds.{Faults}
use Rattle.json_number.specs.Number.{coefficient_at, exponent_at, with_exponent, with_coefficient, number_at}
use Rattle.json_number.specs.declared.Coefficient.{Coefficient}
use Rattle.json_number.specs.declared.Coefficient.TheVariants.{Digits, NoDigit}
use Rattle.json_number.specs.declared.Exponent.{Exponent}
use Rattle.json_number.specs.declared.Exponent.TheVariants.{Power, NoPower}
use Rattle.json_number.specs.declared.Number.{Number}
use Rattle.json_number.proofs.Opens.{open-numbers}

abbrev pub number_kinds : List ℕ
number_kinds = 11 ∷ []

abbrev Known : Number → Type 0
Known n = Faults number_kinds n.reading

exponent-kinds : (negative : Bool) (c trailing fraction : ℕ) (x : Exponent) → Known (with_exponent negative c trailing fraction x)
unfolding with_exponent
exponent-kinds negative c trailing fraction (Power end below e) = tt
exponent-kinds negative c trailing fraction (NoPower place) = refl

module _ (s : List ℕ) where
  coefficient-kinds : (negative : Bool) (k : Coefficient) → Known (with_coefficient s negative k)
  unfolding with_coefficient
  coefficient-kinds negative (Digits end c trailing fraction) = exponent-kinds negative c trailing fraction (exponent_at s end)
  coefficient-kinds negative (NoDigit place) = refl

  pub number-kinds : (at : ℕ) → Faults number_kinds (number_at s at).reading
  unfolding number_at
  number-kinds at =
      either Known (eqb (byte_at s at) 45) _ _ (coefficient-kinds _ (coefficient_at s (at + 1)))
      (coefficient-kinds _ (coefficient_at s at))

-- each is given: no digit stands in `-`
pub number-given : map (λ s. (number_at s 0).reading) ((45 ∷ []) ∷ []) ≡ map (λ kind. fault_at kind 1) number_kinds
unfolding open-numbers
number-given = refl
