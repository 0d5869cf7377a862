-- A total as it is printed, in dollars or hours: whole ten-thousandths, "with no rounding", so four digits behind the point.
use Rattle.std.specs.Prelude.{ℕ, suc, ◌+◌, ◌/◌, ◌%◌, List, [], ◌∷◌, ◌++◌, ℤ, pos, negsuc}
use Rattle.json_bytes.specs.Ascii.{codes}
use Rattle.output.specs.Decimal.{decimal}

-- the last four digits of a number
unfoldable pub last_four : ℕ → List ℕ
last_four n = (48 + n / 1000 % 10) ∷ (48 + n / 100 % 10) ∷ (48 + n / 10 % 10) ∷ (48 + n % 10) ∷ []

unfoldable pub size_text : ℕ → List ℕ
size_text n = decimal (n / 10000) ++ codes "." ++ last_four n

-- negsuc n is n + 1 below zero
unfoldable pub figure : ℤ → List ℕ
figure (pos n) = size_text n
figure (negsuc n) = codes "-" ++ size_text (suc n)
