-- Texts put into an output one behind the other, and numbers so.
-- Assumes nothing.
use Prim.Native.Nat.{ℕ, suc, ◌+◌, ◌/◌, ◌%◌, ◌≤◌, ◌<◌}
use mathlib.Core.Path.{◌≡◌, refl, ap, ◌∙◌}
use mathlib.Core.List.{List, [], ◌∷◌, ◌++◌, append-nil}
use native.Mathlib.Nat.{add-zero, zero-add}
use native.Mathlib.Numerals.{add-one}
use native.Mathlib.Omega.{arith}
use borrow.Author.Tests.{lt-ltb, le-ltb}
use lib.ListN.{length, get_or, set, take, drop, length-append, drop_of_length-le}
use lib.Seq.{take_all, take-nil, drop-nil, drop-cons, append_snoc, set-append_seam}
use Rattle.output.specs.Decimal.{decimal}
use Rattle.output.specs.Output.{Output, output_at, put_byte, put}
use Rattle.output.proofs.Digits.{decimal-last, decimal-more}

-- ---- any texts
-- a byte, by the test for room
module _ (d : List ℕ) (at b : ℕ) where
  pub byte_put : at < length d → output_at (set d at b) (at + 1) ≡ put (output_at d at) (b ∷ [])
  unfolding put put_byte
  byte_put l = rw (lt-ltb at (length d) l)

  pub byte-none : length d ≤ at → output_at d at ≡ put (output_at d at) (b ∷ [])
  unfolding put put_byte
  byte-none l = rw (le-ltb at (length d) l)

put-append : (o : Output) (v w : List ℕ) → put (put o v) w ≡ put o (v ++ w)
unfolding put
put-append o [] w = refl
put-append o (b ∷ v) w = put-append (put_byte o b) v w

-- a text behind another
pub put_then : (o : Output) {p q : Output} (v w : List ℕ) → p ≡ put o v → q ≡ put p w → q ≡ put o (v ++ w)
put_then o v w e h = h ∙ ap (λ p. put p w) e ∙ put-append o v w

-- a text goes to the front of an output as far as there is room, here behind a front p
put-behind : (p q v : List ℕ) → put (output_at (p ++ q) (length p)) v ≡ output_at (p ++ take (length q) v ++ drop (length v) q) (length p + length (take (length q) v))
unfolding put put_byte
put-behind p q [] = rw (take-nil {A = ℕ} (length q), append-nil p, add-zero (length p))
put-behind p [] (b ∷ v) =
    let full : length (p ++ []) ≤ length p = omega (arith, length-append p []) in
    rw (le-ltb (length p) (length (p ++ [])) full) (put-behind p [] v ∙ rw (drop-nil {A = ℕ} (length v)))
put-behind p (x ∷ q) (b ∷ v) =
    let room : length p < length (p ++ x ∷ q) = omega (arith, length-append p (x ∷ q)) in
    let next : length p + 1 + length (take (length q) v) ≡ length p + suc (length (take (length q) v)) = omega arith in
    rw (lt-ltb (length p) (length (p ++ x ∷ q)) room, set-append_seam p x q b, ← append_snoc p b q, ← next, ← append_snoc p b (take (length q) v))
    (rw (length-append p (b ∷ [])) at (put-behind (p ++ (b ∷ [])) q v))

pub put-as-far : (d v : List ℕ) → put (output_at d 0) v ≡ output_at (take (length d) v ++ drop (length v) d) (length (take (length d) v))
put-as-far d v = put-behind [] d v ∙ rw (zero-add (length (take (length d) v)))

-- and whole where there is room for it
pub put_front : (d v : List ℕ) → length v ≤ length d → put (output_at d 0) v ≡ output_at (v ++ drop (length v) d) (length v)
put_front d v l = put-as-far d v ∙ rw (take_all (length d) v l)

-- a text as a loop goes over its bytes: what is left of it, put behind what was
module _ (text : List ℕ) (i : ℕ) (o : Output) where
  pub text-next : i < length text → {p q : Output} → p ≡ put o (get_or text i 0 ∷ []) → put o (drop i text) ≡ q → put p (drop (i + 1) text) ≡ q
  unfolding put
  text-next l e h = ap (λ p. put p (drop (i + 1) text)) e ∙ rw (add-one i) (rw (drop-cons text i 0 l) at h)

  pub text-end : length text ≤ i → {q : Output} → put o (drop i text) ≡ q → o ≡ q
  unfolding put
  text-end l h = rw (drop_of_length-le text {i = i} l) at h

-- ---- numbers
module _ (o : Output) (x : ℕ) where
  pub number-last : x < 10 → {p : Output} → p ≡ put o ((48 + x % 10) ∷ []) → p ≡ put o (decimal x)
  number-last l e = rw (decimal-last x l) e

  pub number_more : 10 ≤ x → {p q : Output} → p ≡ put o (decimal (x / 10)) → q ≡ put p ((48 + x % 10) ∷ []) → q ≡ put o (decimal x)
  number_more l e h = rw (decimal-more x l) (put_then o (decimal (x / 10)) ((48 + x % 10) ∷ []) e h)
