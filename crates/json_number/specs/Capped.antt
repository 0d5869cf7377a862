-- For the code's sake alone: what it keeps of a number formed by digits, the number itself below ten to the nineteenth, and
-- that number for all others. No length of digits wraps, and what is beyond every limit stays beyond it.
use Rattle.std.specs.Prelude.{ℕ, min, ◌≡◌}
use Rattle.json_number.specs.declared.Coefficient.{Coefficient}
use Rattle.json_number.specs.declared.Coefficient.TheVariants.{Digits, NoDigit}
use Rattle.json_number.specs.declared.Exponent.{Exponent}
use Rattle.json_number.specs.declared.Exponent.TheVariants.{Power, NoPower}
use Rattle.json_number.specs.Number.{trimmed, end_zeros}

abbrev pub cap : ℕ
cap = 10000000000000000000

abbrev pub capped_coefficient : Coefficient → Coefficient
capped_coefficient (Digits end c zeros fraction) = Digits end (min c cap) zeros fraction
capped_coefficient (NoDigit place) = NoDigit place

abbrev pub capped_exponent : Exponent → Exponent
capped_exponent (Power end below e) = Power end below (min e cap)
capped_exponent (NoPower place) = NoPower place

-- what the code carries of the number c that the digits so far form: all of it and it without its zeros at the end, both
-- capped, and how many those zeros are
abbrev pub Carried : ℕ → ℕ → ℕ → ℕ → Type 0
Carried c value kept zeros = (value ≡ min c cap) × (kept ≡ min (trimmed c) cap) × (zeros ≡ end_zeros c)
