-- Worked cases of order 7, computed from the definition.
-- Assumes nothing.
use Rattle.std.proofs.Common.{◌≡◌, ℕ, List, [], ◌∷◌, refl}
use Rattle.key_sum.proofs.Opens.{open-sum}
use Rattle.key_sum.specs.Sum.{key_sum}

-- `"b["`, `"\u0041Z"`, `"C"`, `"zzzzzzz"`
abbrev bracket : List ℕ
bracket = 34 ∷ 98 ∷ 91 ∷ 34 ∷ []

abbrev escaped : List ℕ
escaped = 34 ∷ 92 ∷ 117 ∷ 48 ∷ 48 ∷ 52 ∷ 49 ∷ 90 ∷ 34 ∷ []

abbrev letter : List ℕ
letter = 34 ∷ 67 ∷ 34 ∷ []

abbrev long : List ℕ
long = 34 ∷ 122 ∷ 122 ∷ 122 ∷ 122 ∷ 122 ∷ 122 ∷ 122 ∷ 34 ∷ []

-- `b[` and `az` are two keys of one sum; A–Z are folded; the sum wraps
pub sums : (key_sum bracket 0 ∷ key_sum escaped 0 ∷ key_sum letter 0 ∷ key_sum long 0 ∷ []) ≡ (3129 ∷ 3129 ∷ 99 ∷ 215481018 ∷ [])
unfolding open-sum
sums = refl
