-- A string whose bytes, up to its closing quote, are characters by themselves: its characters are those bytes.
-- Assumes nothing.
use Prim.Native.Nat.{ℕ, zero, suc, ◌+◌, ◌-◌, ◌≤◌, ◌<◌}
use mathlib.Core.Path.{◌≡◌, ap, ◌∙◌}
use mathlib.Core.List.{List, ◌∷◌}
use native.Mathlib.Nat.{add-zero}
use native.Mathlib.Numerals.{add-one}
use native.Mathlib.Omega.{arith}
use borrow.Author.Tests.{eq-eqb, le-ltb}
use lib.ListN.{length, take, drop}
use lib.Seq.{drop-cons}
use lib.Dec.{lit<}
use Rattle.json_bytes.specs.Reads.{byte_at}
use Rattle.json_bytes.proofs.Laws.{inside}
use Rattle.json_chars.specs.Step.{step_at}
use Rattle.json_chars.specs.Chars.{chars_from, chars_at}
use Rattle.json_chars.specs.declared.Step.TheVariants.{Char, Close}

module _ (s : List ℕ) where
  pub closing-step : (i : ℕ) → byte_at s i ≡ 34 → step_at s i ≡ Close
  unfolding step_at
  closing-step i e = rw (le-ltb (byte_at s i) 32 (omega (arith, e)), eq-eqb (byte_at s i) 34 e)

  -- each of the bytes from i up to j is a character by itself
  abbrev pub Own : ℕ → ℕ → Type 0
  Own i j = (k : ℕ) → i ≤ k → k < j → step_at s k ≡ Char (byte_at s k) (k + 1)

  chars-along : (n i f : ℕ) → Own i (i + n) → byte_at s (i + n) ≡ 34 → i + n < length s → length s < i + f → chars_from f s i ≡ take n (drop i s)
  unfolding chars_from
  chars-along n i zero own q l m = absurd (omega arith)
  chars-along zero i (suc f) own q l m = rw (closing-step i (rw (add-zero i) at q), chars_from)
  chars-along (suc n) i (suc f) own q l m =
      let next : i + suc n ≡ (i + 1) + n = omega arith in
      let behind = chars-along n (i + 1) f (λ k a b. own k (omega arith) (omega arith)) (rw next at q) (omega arith) (omega arith) in
      rw (own i (omega arith) (omega arith), chars_from, drop-cons s i 0 (omega arith)) (ap (λ cs. byte_at s i ∷ cs) (behind ∙ rw (add-one i)))

  pub chars-plain : (at j : ℕ) → byte_at s at ≡ 34 → at < j → Own (at + 1) j → byte_at s j ≡ 34 → chars_at s at ≡ take (j - (at + 1)) (drop (at + 1) s)
  unfolding chars_at
  chars-plain at j e l own q =
      let is : (at + 1) + (j - (at + 1)) ≡ j = omega arith in
      let in-file = inside s j 34 q (lit< tt) in
      rw (eq-eqb (byte_at s at) 34 e) (chars-along (j - (at + 1)) (at + 1) (length s) (rw is own) (rw is q) (omega (arith, is, in-file)) (omega arith))
