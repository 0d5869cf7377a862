-- For the code's sake alone: what a walk along one string or two asks at each place.
use Rattle.std.specs.Prelude.{ℕ, ◌+◌, ◌≤◌, ◌<◌, ◌≡◌, Bool, true, false, cond, ◌&&◌, List, [], ◌∷◌, length, eqb, Option, Some, None}
use Rattle.json_bytes.specs.Reads.{byte_at}
use Rattle.json_chars.specs.declared.Step.{Step}
use Rattle.json_chars.specs.declared.Step.TheVariants.{Char, Close, Bad}
use Rattle.json_same.specs.Same.{cased_as, is_plain}
use Rattle.json_same.specs.declared.Case.{Case}
use Rattle.json_same.specs.declared.Pair.{Pair}
use Rattle.json_same.specs.declared.Pair.TheVariants.{Same, Apart, Other}

-- ---- Along one string
-- where the characters begin of the string whose opening quote stands at a place; where no quote stands there, the end
-- of the file, at which there are none
unfoldable pub beginning : List ℕ → ℕ → ℕ
beginning s at = cond (eqb (byte_at s at) 34) (at + 1) (length s)

-- the characters of a string end at its closing quote, or at a fault
unfoldable pub is_end : Step → Bool
is_end (Char code next) = false
is_end Close = true
is_end (Bad kind place) = true

-- ---- Along two strings, byte by byte
-- two bytes, a character beginning at each: where both stand for themselves, whether they are the same as they are compared
unfoldable pub pair_of : Case → ℕ → ℕ → Pair
pair_of case p q = cond (is_plain p && is_plain q) (cond (eqb (cased_as case p) (cased_as case q)) Same Apart) Other

-- how far two strings go side by side: over how many bytes; none where they come to two that are apart
-- behind n bytes that were the same: on to the first two that are not, or to the end of either
unfoldable pub run_from : Case → ℕ → List ℕ → List ℕ → Option ℕ
run_from case n [] qs = Some n
run_from case n (p ∷ ps) [] = Some n
run_from case n (p ∷ ps) (q ∷ qs) = elim (pair_of case p q) [ Same ↦ run_from case (n + 1) ps qs | Apart ↦ None | Other ↦ Some n ]

-- ---- Along two strings, eight bytes at a time
-- r bytes, eight at most, that stand from two places on: the same in both, and each stands for itself inside a string
pub record Alike (a : List ℕ) (x : ℕ) (b : List ℕ) (y r : ℕ) : Type 0 where
  pub few : r ≤ 8
  pub here : x + r ≤ length a
  pub there : y + r ≤ length b
  pub same : (k : ℕ) → k < r → byte_at a (x + k) ≡ byte_at b (y + k)
  pub plain : (k : ℕ) → k < r → is_plain (byte_at a (x + k)) ≡ true
