-- A number as it is printed: its decimal digits, no zeros before them.
use Rattle.std.specs.Prelude.{ℕ, zero, suc, ◌+◌, ◌/◌, ◌%◌, true, false, List, [], ◌∷◌, ◌++◌, ltb}

-- of a number below f
unfoldable pub digits_in : ℕ → ℕ → List ℕ
digits_in zero x = []
digits_in (suc f) x =
    elim (ltb x 10) [ true ↦ (48 + x) ∷ [] | false ↦ digits_in f (x / 10) ++ ((48 + x % 10) ∷ []) ]

unfoldable pub decimal : ℕ → List ℕ
decimal x = digits_in (suc x) x
