-- Two lists of bytes eight at a time: eight bytes are equal where the number that they come to is.
-- Assumes nothing.
use Prim.Native.Nat.{ℕ, ◌+◌, ◌-◌, ◌≤◌, ◌<◌}
use mathlib.Core.Path.{◌≡◌, refl, sym, ap}
use mathlib.Core.Bool.{Bool, true, false}
use mathlib.Core.List.{List}
use native.Mathlib.Omega.{arith}
use borrow.Author.Tests.{ltb-true, ltb-false, eqb-true, eqb-false}
use lib.ListN.{length}
use lib.Seq.{ext_get_or}
use lib.Dec.{ltb, eqb}
use Rattle.json_bytes.specs.Reads.{byte_at}
use Rattle.json_bytes.specs.Eight.{eight_at}
use Rattle.json_bytes.proofs.Eight.{Bytes, eight-alike}
use Rattle.json_same.specs.Same.{same_list}
use Rattle.json_same.proofs.Laws.{same-equal, equal-same}

-- the lists hold the same bytes below a place
abbrev pub Alike : List ℕ → List ℕ → ℕ → Type 0
Alike a b i = (k : ℕ) → k < i → byte_at a k ≡ byte_at b k

module _ (a b : List ℕ) where
  alike_all : (n : ℕ) → n ≡ length a → length a ≡ length b → Alike a b n → same_list a b ≡ true
  alike_all n e m h = equal-same a b (ext_get_or 0 a b m (λ k l. h k (omega arith)))

  -- other eights are those of other lists
  pub eights-differ : (j : ℕ) → (eight_at a j ≡ eight_at b j → ⊥) → same_list a b ≡ false
  eights-differ j n = go (same_list a b) refl
    where
      go : (t : Bool) → same_list a b ≡ t → t ≡ false
      go true q = absurd (n (ap (λ s. eight_at s j) (same-equal a b q)))
      go false q = refl

  module _ (fa : Bytes a) (fb : Bytes b) (m : length a ≡ length b) (j : ℕ) (r : j + 8 ≤ length a) where
    -- below the end of eight that are equal, where they are below the first of those
    pub alike-more : eight_at a j ≡ eight_at b j → (i : ℕ) → j ≤ i → Alike a b i → Alike a b (j + 8)
    alike-more e i l h k u = go (ltb k j) refl
      where
        go : (t : Bool) → ltb k j ≡ t → byte_at a k ≡ byte_at b k
        go true q = h k (omega (arith, ltb-true k j q))
        go false q =
            let n : j ≤ k = ltb-false k j q in
            let p : j + (k - j) ≡ k = omega arith in
            rw p at (eight-alike a b fa fb j e (k - j) (omega arith))

    -- the last eight decide it
    pub eights-told : (i : ℕ) → j + 8 ≡ length a → j ≤ i → Alike a b i → {x y : ℕ} → x ≡ eight_at a j → y ≡ eight_at b j → eqb x y ≡ same_list a b
    eights-told i n l h ex ey = rw (ex, ey) (go (eqb (eight_at a j) (eight_at b j)) refl)
      where
        go : (t : Bool) → eqb (eight_at a j) (eight_at b j) ≡ t → t ≡ same_list a b
        go true q = sym (alike_all (j + 8) n m (alike-more (eqb-true (eight_at a j) (eight_at b j) q) i l h))
        go false q = sym (eights-differ j (eqb-false (eight_at a j) (eight_at b j) q))
