-- Figures by their sign, how long one can be, and the longest of some.
-- Assumes nothing.
use Prim.Native.Nat.{ℕ, suc, ◌+◌, ◌/◌, ◌%◌, ◌≤◌}
use mathlib.Core.Path.{◌≡◌, refl, ap, ◌∙◌}
use mathlib.Core.Bool.{Bool, true, false, cond, true≢false}
use mathlib.Core.List.{List, [], ◌∷◌, ◌++◌}
use native.Mathlib.Numerals.{add-one}
use native.Mathlib.Omega.{arith}
use borrow.Author.Tests.{ltb-true, ltb-false}
use lib.Dec.{ltb}
use Rattle.std.proofs.Common.{max}
use lib.ListN.{length, length-append}
use lib.IntN.{ℤ, pos, negsuc, nat_abs}
use lib.Signed.{lt_z}
use mir.Syntax.{w64}
use mir.Val.{SFits, to_z, of_z}
use mir.Facts.{to_z-of_z}
use Rattle.exact_sums.specs.Sums.{whole_at}
use Rattle.json_bytes.specs.Ascii.{codes}
use Rattle.output.specs.Decimal.{decimal}
use Rattle.output.specs.Output.{Output, output_at, put}
use Rattle.output.proofs.Digits.{decimal-length}
use Rattle.output.proofs.Puts.{put_then, put_front}
use Rattle.quarter_text.specs.Figure.{last_four, size_text, figure}
use Rattle.quarter_text.specs.Table.{larger, longest_to, longest}

-- ---- its digits and its sign
module _ (o : Output) (n : ℕ) where
  pub four-put : {p q r s : Output} → p ≡ put o ((48 + n / 1000 % 10) ∷ []) → q ≡ put p ((48 + n / 100 % 10) ∷ []) → r ≡ put q ((48 + n / 10 % 10) ∷ []) → s ≡ put r ((48 + n % 10) ∷ []) → s ≡ put o (last_four n)
  unfolding last_four
  four-put e f g h = put_then o _ _ (put_then o _ _ (put_then o _ _ e f) g) h

figure-below : (z : ℤ) → lt_z z (pos 0) ≡ true → figure z ≡ 45 ∷ size_text (nat_abs z)
unfolding figure codes
figure-below (pos a) e = absurd (omega (arith, ltb-true a 0 e))
figure-below (negsuc n) e = refl

figure-above : (z : ℤ) → lt_z z (pos 0) ≡ false → figure z ≡ size_text (nat_abs z)
unfolding figure
figure-above (pos a) e = refl
figure-above (negsuc n) e = absurd (true≢false e)

module _ (o : Output) (z : ℤ) (held : SFits w64 z) {n : ℕ} (size : n ≡ nat_abs (to_z w64 (of_z w64 z))) where
  pub below_put : lt_z (to_z w64 (of_z w64 z)) (pos 0) ≡ true → {p q : Output} → p ≡ put o (45 ∷ []) → q ≡ put p (size_text n) → q ≡ put o (figure z)
  below_put t e f =
      rw (figure-below z (rw (to_z-of_z held) at t)) (put_then o (45 ∷ []) (size_text (nat_abs z)) e (rw (size, to_z-of_z held) at f))

  pub above-put : lt_z (to_z w64 (of_z w64 z)) (pos 0) ≡ false → {p : Output} → p ≡ put o (size_text n) → p ≡ put o (figure z)
  above-put t e = rw (figure-above z (rw (to_z-of_z held) at t)) (rw (size, to_z-of_z held) at e)

-- ---- how long one can be
size-short : (n : ℕ) → n ≤ 9223372036854775808 → length (size_text n) ≤ 21
unfolding size_text codes last_four
size-short n l =
    omega (arith, length-append (decimal (n / 10000) ++ (46 ∷ [])) (last_four n), length-append (decimal (n / 10000)) (46 ∷ []), decimal-length (n / 10000) 15 (omega arith))

figure-short : (z : ℤ) → SFits w64 z → length (figure z) ≤ 32
unfolding figure codes
figure-short (pos n) f = omega (arith, size-short n (omega (arith, f.sfits)))
figure-short (negsuc n) f = omega (arith, size-short (suc n) (omega (arith, f.sfits)))

pub length-read : (z : ℤ) → SFits w64 z → (d : List ℕ) → length d ≡ 32 → {e : List ℕ} {n : ℕ} → output_at e n ≡ put (output_at d 0) (figure (to_z w64 (of_z w64 z))) → n ≡ length (figure z)
length-read z f d l {e} {n} q =
    let r : output_at e n ≡ put (output_at d 0) (figure z) = rw (to_z-of_z f) at q in
    ap (λ (o : Output). o.place) (r ∙ put_front d (figure z) (omega (arith, figure-short z f)))

-- ---- the longest of some
pub max-larger : (a b : ℕ) → max a b ≡ larger a b
unfolding larger
max-larger a b = go (ltb a b) refl
  where
    go : (t : Bool) → ltb a b ≡ t → max a b ≡ cond t b a
    go true e = omega (arith, ltb-true a b e)
    go false e = omega (arith, ltb-false a b e)

module _ (list : List ℤ) where
  pub longest-starts : 12 ≡ longest_to list 0
  unfolding longest_to
  longest-starts = refl

  pub longest-next : (i : ℕ) {x : ℤ} {m n k : ℕ} → x ≡ whole_at list i → m ≡ longest_to list i → n ≡ length (figure x) → k ≡ larger m n → k ≡ longest_to list (i + 1)
  unfolding longest_to
  longest-next i at so_far here e = rw (add-one i) (e ∙ rw (so_far, here, at))

  pub longest-ends : (i : ℕ) {m : ℕ} → i ≡ length list → m ≡ longest_to list i → m ≡ longest list
  unfolding longest
  longest-ends i e h = h ∙ ap (longest_to list) e
