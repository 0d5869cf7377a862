-- The sum of a key. Document 02, order 7: "a 32-bit sum that wraps, made by adding each folded byte to 31 times the sum
-- so far, from 0, over the decoded key".
use Rattle.std.specs.Prelude.{ℕ, ◌+◌, ◌*◌, ◌%◌, ◌^◌, List, [], ◌∷◌, map}
use Rattle.json_chars.specs.Chars.{chars_at}
use Rattle.json_same.specs.Same.{cased_as}
use Rattle.json_same.specs.declared.Case.TheVariants.{Folded}

-- 31 times the sum so far and one more, of 32 bits
unfoldable pub sum_with : ℕ → ℕ → ℕ
sum_with sum c = (31 * sum + c) % 2 ^ 32

-- from a sum on, over what is left
unfoldable pub sum_on : ℕ → List ℕ → ℕ
sum_on sum [] = sum
sum_on sum (c ∷ cs) = sum_on (sum_with sum c) cs

unfoldable pub sum_of : List ℕ → ℕ
sum_of cs = sum_on 0 cs

-- the sum of the string whose opening quote stands at a place: of its characters, decoded, with A–Z folded to a–z. The
-- first key field of every table is a StringID, whose characters are 20 to 7E and one byte each; of a character beyond
-- them its code is added, so that every string has a sum.
unfoldable pub key_sum : List ℕ → ℕ → ℕ
key_sum s at = sum_of (map (cased_as Folded) (chars_at s at))
