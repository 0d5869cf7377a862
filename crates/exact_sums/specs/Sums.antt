-- Exact sums, for document 02, order 11: "with no rounding". Whole numbers, ℤ, have no bounds here.
use Rattle.std.specs.Prelude.{ℕ, zero, suc, ◌<◌, List, [], ◌∷◌, ◌++◌, get_or, ℤ, pos, ◌+ℤ◌, nat_abs}

-- f 0 + f 1 + .. up to n of them
unfoldable pub sum_to : (ℕ → ℤ) → ℕ → ℤ
sum_to f zero = pos 0
sum_to f (suc n) = sum_to f n +ℤ f n

-- the sum of what f gives for each entry of a list
unfoldable pub sum_over : {A : Type 0} → (A → ℤ) → List A → ℤ
sum_over f [] = pos 0
sum_over f (x ∷ xs) = f x +ℤ sum_over f xs

-- ---- Lists of whole numbers: by what stands at each of the first n places, and what stands at a place; 0 past the end
unfoldable pub wholes : (ℕ → ℤ) → ℕ → List ℤ
wholes f zero = []
wholes f (suc n) = wholes f n ++ (f n ∷ [])

unfoldable pub whole_at : List ℤ → ℕ → ℤ
whole_at l i = get_or l i (pos 0)
