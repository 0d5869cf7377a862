-- The number cases of document 01, "Both sides of each line" (P2 to P6), as order 1 of document 02 reads them, and the edges beside them, by computation.
-- Assumes nothing.
use Rattle.json_bytes.specs.Reads.{Reading, fault_at}
use Rattle.std.specs.Prelude.{Ok}
use Prim.Native.Nat.{ℕ}
use mathlib.Core.Path.{◌≡◌, refl}
use mathlib.Core.Bool.{Bool, true, false}
use mathlib.Core.List.{List, [], ◌∷◌, map}
use Rattle.json_number.proofs.Opens.{open-numbers}
use Rattle.json_bytes.specs.Ascii.{codes}
use Rattle.json_number.specs.Number.{number_at, integer_of, sign_of, same_value}
use Rattle.json_number.specs.Short.{short_end}
use Rattle.json_number.specs.declared.Value.{Value}
use Rattle.json_number.specs.declared.Value.TheVariants.{Fits, Beyond}
use Rattle.json_number.specs.declared.Integer.{Integer}
use Rattle.json_number.specs.declared.Integer.TheVariants.{Is, Fraction, TooLarge}
use Rattle.json_number.specs.declared.Sign.{Sign}
use Rattle.json_number.specs.declared.Sign.TheVariants.{Zero, Above, Below}

abbrev read : List ℕ → Reading × Value × Integer × Sign
read s = ((number_at s 0).reading, (number_at s 0).value, integer_of (number_at s 0).value, sign_of (number_at s 0).value)

abbrev texts : List (List ℕ)
texts =
    (49 ∷ 48 ∷ 101 ∷ 45 ∷ 49 ∷ [])  -- 10e-1
    ∷ (48 ∷ 46 ∷ 53 ∷ [])  -- 0.5
    ∷ (45 ∷ 48 ∷ [])  -- -0
    ∷ (57 ∷ 57 ∷ 57 ∷ 57 ∷ 57 ∷ 57 ∷ 57 ∷ 57 ∷ 57 ∷ 57 ∷ 57 ∷ 57 ∷ 57 ∷ 57 ∷ 57 ∷ [])  -- 999999999999999
    ∷ (49 ∷ 48 ∷ 48 ∷ 48 ∷ 48 ∷ 48 ∷ 48 ∷ 48 ∷ 48 ∷ 48 ∷ 48 ∷ 48 ∷ 48 ∷ 48 ∷ 48 ∷ 48 ∷ [])  -- 1000000000000000
    ∷ (49 ∷ 101 ∷ 49 ∷ 53 ∷ [])  -- 1e15
    ∷ (49 ∷ 69 ∷ 43 ∷ 49 ∷ 54 ∷ [])  -- 1E+16
    ∷ (48 ∷ 101 ∷ 49 ∷ 54 ∷ [])  -- 0e16
    ∷ (48 ∷ 101 ∷ 57 ∷ 57 ∷ [])  -- 0e99
    ∷ (56 ∷ 46 ∷ 48 ∷ 48 ∷ 48 ∷ 48 ∷ 48 ∷ 48 ∷ 48 ∷ 48 ∷ 48 ∷ 48 ∷ 48 ∷ 48 ∷ 48 ∷ 48 ∷ 48 ∷ 48 ∷ [])  -- 8.0000000000000000
    ∷ (49 ∷ 48 ∷ 101 ∷ 49 ∷ 53 ∷ [])  -- 10e15
    ∷ (48 ∷ 46 ∷ 48 ∷ 48 ∷ 48 ∷ 48 ∷ 48 ∷ 48 ∷ 48 ∷ 48 ∷ 48 ∷ 48 ∷ 48 ∷ 48 ∷ 48 ∷ 48 ∷ 48 ∷ 49 ∷ [])  -- 0.0000000000000001
    ∷ (49 ∷ 48 ∷ 48 ∷ 48 ∷ 48 ∷ 48 ∷ 48 ∷ 48 ∷ 48 ∷ 48 ∷ 48 ∷ 48 ∷ 48 ∷ 48 ∷ 48 ∷ 48 ∷ 101 ∷ 45 ∷ 51 ∷ 48 ∷ [])  -- 1000000000000000e-30
    ∷ (45 ∷ 49 ∷ 46 ∷ 53 ∷ 101 ∷ 45 ∷ 49 ∷ 52 ∷ [])  -- -1.5e-14
    ∷ (49 ∷ 46 ∷ 53 ∷ 101 ∷ 45 ∷ 49 ∷ 53 ∷ [])  -- 1.5e-15
    ∷ (48 ∷ 49 ∷ [])  -- 01, of which 0 is the number
    ∷ (49 ∷ 46 ∷ [])  -- 1.
    ∷ (45 ∷ 46 ∷ 53 ∷ [])  -- -.5
    ∷ (49 ∷ 101 ∷ 43 ∷ 120 ∷ [])  -- 1e+x
    ∷ []  -- nothing
    ∷ []

abbrev answers : List (Reading × Value × Integer × Sign)
answers =
    (Ok 5, Fits false 1 15, Is false 1, Above)
    ∷ (Ok 3, Fits false 5 14, Fraction, Above)
    ∷ (Ok 2, Fits false 0 15, Is false 0, Zero)
    ∷ (Ok 15, Fits false 999999999999999 15, Is false 999999999999999, Above)
    ∷ (Ok 16, Fits false 1 30, TooLarge, Above)
    ∷ (Ok 4, Fits false 1 30, TooLarge, Above)
    ∷ (Ok 5, Beyond, TooLarge, Zero)
    ∷ (Ok 4, Fits false 0 15, Is false 0, Zero)
    ∷ (Ok 4, Fits false 0 15, Is false 0, Zero)
    ∷ (Ok 18, Fits false 8 15, Is false 8, Above)
    ∷ (Ok 5, Beyond, TooLarge, Zero)
    ∷ (Ok 18, Beyond, TooLarge, Zero)
    ∷ (Ok 20, Fits false 1 0, Fraction, Above)
    ∷ (Ok 8, Fits true 15 0, Fraction, Below)
    ∷ (Ok 7, Beyond, TooLarge, Zero)
    ∷ (Ok 1, Fits false 0 15, Is false 0, Zero)
    ∷ (fault_at 11 2, Beyond, TooLarge, Zero)
    ∷ (fault_at 11 1, Beyond, TooLarge, Zero)
    ∷ (fault_at 11 3, Beyond, TooLarge, Zero)
    ∷ (fault_at 11 0, Beyond, TooLarge, Zero)
    ∷ []

abbrev same : List ℕ × List ℕ → Bool
same p = same_value (number_at p.0 0).value (number_at p.1 0).value

-- 1 beside 1.0, 10e-1, -1 and 10; 0 beside -0 and 0.0; 1e16 beside itself
abbrev pairs : List (List ℕ × List ℕ)
pairs =
    (49 ∷ [], 49 ∷ 46 ∷ 48 ∷ [])
    ∷ (49 ∷ [], 49 ∷ 48 ∷ 101 ∷ 45 ∷ 49 ∷ [])
    ∷ (49 ∷ [], 45 ∷ 49 ∷ [])
    ∷ (49 ∷ [], 49 ∷ 48 ∷ [])
    ∷ (48 ∷ [], 45 ∷ 48 ∷ [])
    ∷ (48 ∷ [], 48 ∷ 46 ∷ 48 ∷ [])
    ∷ (49 ∷ 101 ∷ 49 ∷ 54 ∷ [], 49 ∷ 101 ∷ 49 ∷ 54 ∷ [])
    ∷ []

pub numbers : (map read texts ≡ answers) × (map same pairs ≡ true ∷ true ∷ false ∷ false ∷ true ∷ true ∷ false ∷ [])
unfolding open-numbers
numbers = (refl, refl)

-- where a short number ends, and 0 for a number that is none: fifteen digits and sixteen, with a point and without, an exponent,
-- a zero before another digit, and a point or a sign with no digit behind it
pub short-numbers : map (λ t. short_end (codes t) 0) ("0" ∷ "-0.5" ∷ "8400.50," ∷ "999999999999999" ∷ "0.99999999999999" ∷ []) ≡ 1 ∷ 4 ∷ 7 ∷ 15 ∷ 16 ∷ []
unfolding open-numbers
short-numbers = refl

pub other-numbers : map (λ t. short_end (codes t) 0) ("9999999999999999" ∷ "0.999999999999999" ∷ "1e1" ∷ "1.5E1" ∷ "01" ∷ "1." ∷ "-" ∷ []) ≡ 0 ∷ 0 ∷ 0 ∷ 0 ∷ 0 ∷ 0 ∷ 0 ∷ []
unfolding open-numbers
other-numbers = refl
