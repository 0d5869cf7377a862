-- Walking a string character by character: what is left of it at a place, and one law for each answer of a step.
-- Assumes nothing.
use Prim.Native.Nat.{ℕ, zero, suc, ◌+◌, ◌≤◌, ◌<◌}
use mathlib.Core.Path.{◌≡◌, refl, sym, ◌∙◌}
use mathlib.Core.Bool.{false}
use mathlib.Core.List.{List, [], ◌∷◌}
use native.Mathlib.Omega.{arith}
use borrow.Author.Tests.{eq-eqb, ne_eqb, lt-ltb, le-ltb}
use lib.ListN.{length}
use lib.Dec.{eqb}
use Rattle.json_bytes.specs.Reads.{byte_at}
use Rattle.json_chars.specs.Step.{step_at}
use Rattle.json_chars.specs.Chars.{chars_from, chars_at}
use Rattle.json_chars.specs.declared.Step.TheVariants.{Char, Close, Bad}
use Rattle.json_chars.proofs.Bounds.{step-good, Good}

-- the place is within the file, and the characters from it on are cs
pub record Left (s : List ℕ) (i : ℕ) (cs : List ℕ) : Type 0 where
  pub fuel : ℕ
  pub inside : i ≤ length s
  pub enough : length s < i + fuel
  pub reads : chars_from fuel s i ≡ cs

-- one character more: its code is the first of those left, and the rest is left behind it
pub record Taken (s : List ℕ) (code next : ℕ) (cs : List ℕ) : Type 0 where
  pub others : List ℕ
  pub first : cs ≡ code ∷ others
  pub left : Left s next others

-- i ≤ length s < i + fuel, so that fuel is left for one step
module _ (s : List ℕ) (i : ℕ) (cs : List ℕ) where
  char-by : (f : ℕ) → i ≤ length s → length s < i + f → chars_from f s i ≡ cs → (code next : ℕ) → step_at s i ≡ Char code next → Taken s code next cs
  unfolding chars_from
  char-by zero l m r code next e = absurd (omega arith)
  char-by (suc g) l m r code next e =
      let b : Good s i (Char code next) = rw e at (step-good s i l) in
      record {
        others = chars_from g s next;
        first = sym r ∙ rw (e, chars_from);
        left = record { fuel = g; inside = b.1; enough = omega arith; reads = refl };
      }

  close-by : (f : ℕ) → i ≤ length s → length s < i + f → chars_from f s i ≡ cs → step_at s i ≡ Close → cs ≡ []
  unfolding chars_from
  close-by zero l m r e = absurd (omega arith)
  close-by (suc g) l m r e = sym r ∙ rw (e, chars_from)

  bad-by : (f : ℕ) → i ≤ length s → length s < i + f → chars_from f s i ≡ cs → (kind place : ℕ) → step_at s i ≡ Bad kind place → cs ≡ []
  unfolding chars_from
  bad-by zero l m r kind place e = absurd (omega arith)
  bad-by (suc g) l m r kind place e = sym r ∙ rw (e, chars_from)

  module _ (w : Left s i cs) where
    pub take-char : (code next : ℕ) → step_at s i ≡ Char code next → Taken s code next cs
    take-char = char-by w.fuel w.inside w.enough w.reads

    pub take-close : step_at s i ≡ Close → cs ≡ []
    take-close = close-by w.fuel w.inside w.enough w.reads

    pub take-bad : (kind place : ℕ) → step_at s i ≡ Bad kind place → cs ≡ []
    take-bad = bad-by w.fuel w.inside w.enough w.reads

module _ (s : List ℕ) (at : ℕ) where
  -- behind an opening quote all the characters are left
  pub opened : at < length s → byte_at s at ≡ 34 → Left s (at + 1) (chars_at s at)
  unfolding chars_at
  opened l e = record { fuel = length s; inside = omega arith; enough = omega arith; reads = rw (eq-eqb (byte_at s at) 34 e) }

  pub unopened : (byte_at s at ≡ 34 → ⊥) → chars_at s at ≡ []
  unfolding chars_at
  unopened n = rw (ne_eqb (byte_at s at) 34 n)

-- ---- a byte of ASCII that is no control, no quote and no backslash is a character by itself
pub own-step : (s : List ℕ) (i : ℕ) → 32 ≤ byte_at s i → byte_at s i < 128 → eqb (byte_at s i) 34 ≡ false → eqb (byte_at s i) 92 ≡ false → step_at s i ≡ Char (byte_at s i) (i + 1)
unfolding step_at
own-step s i from to quote slash = rw (le-ltb (byte_at s i) 32 from, quote, slash, lt-ltb (byte_at s i) 128 to)
