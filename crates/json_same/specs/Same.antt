-- When two strings are the same. Document 01: "IDs and enumeration values are compared with A–Z folded to a–z in every
-- rule"; a name is a field "after escapes are decoded, case kept".
use Rattle.std.specs.Prelude.{ℕ, ◌+◌, Bool, true, false, cond, ◌&&◌, List, [], ◌∷◌, map, eqb}
use Rattle.json_bytes.specs.Reads.{within}
use Rattle.json_same.specs.declared.Case.{Case}
use Rattle.json_same.specs.declared.Case.TheVariants.{Kept, Folded}

-- a character as it is compared: itself, or with A–Z folded to a–z
unfoldable pub cased_as : Case → ℕ → ℕ
cased_as Kept code = code
cased_as Folded code = cond (within 65 90 code) (code + 32) code

-- as many characters, and each equal to the other's
unfoldable pub same_list : List ℕ → List ℕ → Bool
same_list [] [] = true
same_list [] (y ∷ ys) = false
same_list (x ∷ xs) [] = false
same_list (x ∷ xs) (y ∷ ys) = eqb x y && same_list xs ys

-- two strings, by their characters as they are compared
unfoldable pub same_as : Case → List ℕ → List ℕ → Bool
same_as case xs ys = same_list (map (cased_as case) xs) (map (cased_as case) ys)

-- a byte that stands for itself inside a string: no quote, no backslash, no part of a longer sequence
unfoldable pub is_plain : ℕ → Bool
is_plain b = cond (eqb b 34) false (cond (eqb b 92) false (within 32 127 b))
