-- Where equal keys stand side by side and those of one key in the order of their records, the least record that has the
-- key of the one before it is the first that has the key of an earlier one.
-- Assumes nothing.
use Prim.Native.Nat.{ℕ, zero, suc, ◌≤◌, ◌<◌}
use mathlib.Core.Path.{◌≡◌, refl, sym, ap, ◌∙◌}
use mathlib.Core.Bool.{Bool, true, false, cond, true≢false}
use mathlib.Core.List.{List, [], ◌∷◌}
use mathlib.Core.Logic.{◌⊎◌, inl, inr}
use native.Mathlib.Omega.{arith}
use borrow.Author.Tests.{ltb-true, ltb-false}
use lib.ListN.{length, get_or}
use lib.Dec.{ltb}
use Rattle.sorted_numbers.proofs.Members.{Stands}
use Rattle.rule_cells.specs.Cells.{first_that}
use Rattle.rule_cells.proofs.First.{found_first, none_first}
use Rattle.key_order.proofs.Listed.{Listed}
use Rattle.ordered_key.specs.Repeat.{lesser, repeat_of, least_repeat}

-- ---- the lesser of two is one of them, and no more than either
lesser-one : (a b r : ℕ) → lesser a b ≡ suc r → (a ≡ suc r) ⊎ (b ≡ suc r)
unfolding lesser
lesser-one zero b r e = inr e
lesser-one (suc a) zero r e = inl e
lesser-one (suc a) (suc b) r e = go (ltb a b) e
  where
    go : (t : Bool) → cond t (suc a) (suc b) ≡ suc r → (suc a ≡ suc r) ⊎ (suc b ≡ suc r)
    go true f = inl f
    go false f = inr f

-- a record counted from 1, and at most x
abbrev UpTo : ℕ → ℕ → Type 0
UpTo x r = (0 < r) × (r ≤ x)

lesser-first : (a b x : ℕ) → UpTo x a → UpTo x (lesser a b)
unfolding lesser
lesser-first zero b x u = absurd (omega arith)
lesser-first (suc a) zero x u = u
lesser-first (suc a) (suc b) x u = go (ltb a b) refl
  where
    go : (t : Bool) → ltb a b ≡ t → UpTo x (cond t (suc a) (suc b))
    go true f = u
    go false f = (omega arith, omega (arith, ltb-false a b f))

lesser-then : (a b x : ℕ) → UpTo x b → UpTo x (lesser a b)
unfolding lesser
lesser-then zero b x u = u
lesser-then (suc a) zero x u = absurd (omega arith)
lesser-then (suc a) (suc b) x u = go (ltb a b) refl
  where
    go : (t : Bool) → ltb a b ≡ t → UpTo x (cond t (suc a) (suc b))
    go true f = (omega arith, omega (arith, ltb-true a b f))
    go false f = u

-- ---- what the least is
module _ (same : ℕ → ℕ → Bool) where
  -- record r has the key of the record just before it in the list
  pub record Beside (l : List ℕ) (r : ℕ) : Type 0 where
    pub place : ℕ
    pub inside : suc place < length l
    pub is : get_or l (suc place) 0 ≡ r
    pub here : same (get_or l place 0) r ≡ true

  repeat-is : (p r : ℕ) → same p r ≡ true → repeat_of same p r ≡ suc r
  unfolding repeat_of
  repeat-is p r e = rw e

  is-repeat : (p q r : ℕ) → repeat_of same p q ≡ suc r → (q ≡ r) × (same p r ≡ true)
  unfolding repeat_of
  is-repeat p q r e = go (same p q) refl e
    where
      go : (t : Bool) → same p q ≡ t → cond t (suc q) 0 ≡ suc r → (q ≡ r) × (same p r ≡ true)
      go true f h = let z : q ≡ r = omega arith in (z, rw (← z) f)
      go false f h = absurd (omega arith)

  -- it has the key of the one before it
  pub least-is : (l : List ℕ) (r : ℕ) → least_repeat same l ≡ suc r → Beside l r
  unfolding least_repeat
  least-is [] r e = absurd (omega arith)
  least-is (p ∷ []) r e = absurd (omega arith)
  least-is (p ∷ q ∷ rest) r e = go (lesser-one (repeat_of same p q) (least_repeat same (q ∷ rest)) r e) (least-is (q ∷ rest) r)
    where
      go : (repeat_of same p q ≡ suc r) ⊎ (least_repeat same (q ∷ rest) ≡ suc r) → (least_repeat same (q ∷ rest) ≡ suc r → Beside (q ∷ rest) r) → Beside (p ∷ q ∷ rest) r
      go (inl f) k = record { place = 0; inside = omega arith; is = (is-repeat p q r f).0; here = (is-repeat p q r f).1 }
      go (inr f) k =
          let b : Beside (q ∷ rest) r = k f in
          record { place = suc b.place; inside = omega (arith, b.inside); is = b.is; here = b.here }

  -- and no such record is less
  least-upto : (l : List ℕ) (i : ℕ) → suc i < length l → same (get_or l i 0) (get_or l (suc i) 0) ≡ true → UpTo (suc (get_or l (suc i) 0)) (least_repeat same l)
  unfolding least_repeat
  least-upto [] i h e = absurd (omega arith)
  least-upto (p ∷ []) i h e = absurd (omega arith)
  least-upto (p ∷ q ∷ rest) zero h e =
      lesser-first (repeat_of same p q) (least_repeat same (q ∷ rest)) (suc q) (rw (repeat-is p q e) (omega arith, omega arith))
  least-upto (p ∷ q ∷ rest) (suc i) h e =
      lesser-then (repeat_of same p q) (least_repeat same (q ∷ rest)) (suc (get_or rest i 0)) (least-upto (q ∷ rest) i (omega arith) e)

  pub least-below : (l : List ℕ) (r : ℕ) → Beside l r → UpTo (suc r) (least_repeat same l)
  least-below l r b = rw b.is at (least-upto l b.place b.inside (rw b.is b.here))

-- ---- an order in which equal keys stand side by side
pub record SideBySide (same le : ℕ → ℕ → Bool) (n : ℕ) : Type 0 where
  -- no two records each stand before the other
  pub anti : (p q : ℕ) → le p q ≡ true → le q p ≡ true → p ≡ q
  pub turned : (p q : ℕ) → same p q ≡ true → same q p ≡ true
  -- of one key the earlier record stands first
  pub forward : (j r : ℕ) → j < r → r < n → same j r ≡ true → le j r ≡ true
  -- and what stands between two of one key has it too
  pub between : (j p r : ℕ) → j < n → p < n → r < n → same j r ≡ true → le j p ≡ true → le p r ≡ true → same p r ≡ true

module _ (same le : ℕ → ℕ → Bool) (n : ℕ) (l : List ℕ) (s : SideBySide same le n) (k : Listed le n l) where
  -- a record that has an earlier one's key has that of the one before it in the order
  beside : (j r : ℕ) → j < r → r < n → same j r ≡ true → Beside same l r
  beside j r g h e = go (k.has j (omega arith)) (k.has r h)
    where
      found : (a b : ℕ) → a < suc b → suc b < n → get_or l a 0 ≡ j → get_or l (suc b) 0 ≡ r → (t : Bool) → ltb a b ≡ t → same (get_or l b 0) r ≡ true
      found a b u v p q true f =
          s.between j (get_or l b 0) r (omega arith) (k.inside b (omega arith)) h e (rw (← p) (k.rises a b (ltb-true a b f) (omega arith))) (rw (← q) (k.rises b (suc b) (omega arith) v))
      found a b u v p q false f = let z : a ≡ b = omega (arith, ltb-false a b f) in rw (← z, p) e

      by : (a b : ℕ) → a < n → b < n → get_or l a 0 ≡ j → get_or l b 0 ≡ r → (t : Bool) → ltb a b ≡ t → Beside same l r
      by a zero u v p q true f = absurd (omega (arith, ltb-true a zero f))
      by a (suc b) u v p q true f =
          record { place = b; inside = omega (arith, k.long); is = q; here = found a b (ltb-true a (suc b) f) v p q (ltb a b) refl }
      by a b u v p q false f = absurd (behind (ltb b a) refl)
        where
          behind : (t : Bool) → ltb b a ≡ t → ⊥
          behind true m =
              let z : j ≡ r = s.anti j r (s.forward j r g h e) (rw (← p, ← q) (k.rises b a (ltb-true b a m) u)) in
              omega arith
          behind false m =
              let z : a ≡ b = omega (arith, ltb-false b a m, ltb-false a b f) in
              let y : get_or l a 0 ≡ get_or l b 0 = ap (λ (x : ℕ). get_or l x 0) z in
              omega arith

      go : Stands j l → Stands r l → Beside same l r
      go a b = by a.place b.place (omega (arith, a.inside, k.long)) (omega (arith, b.inside, k.long)) a.is b.is (ltb a.place b.place) refl

  -- and the one before it is earlier
  earlier : (r : ℕ) (b : Beside same l r) → get_or l b.place 0 < r
  earlier r b = go (ltb (get_or l b.place 0) r) refl
    where
      u : b.place < n
      u = omega (arith, b.inside, k.long)

      v : suc b.place < n
      v = omega (arith, b.inside, k.long)

      apart : get_or l b.place 0 ≡ r → ⊥
      apart z = k.once b.place (suc b.place) (omega arith) b.inside (z ∙ sym b.is)

      go : (t : Bool) → ltb (get_or l b.place 0) r ≡ t → get_or l b.place 0 < r
      go true f = ltb-true _ _ f
      go false f = absurd (behind (ltb r (get_or l b.place 0)) refl)
        where
          behind : (t : Bool) → ltb r (get_or l b.place 0) ≡ t → ⊥
          behind true m =
              apart (s.anti (get_or l b.place 0) r (rw (← b.is) (k.rises b.place (suc b.place) (omega arith) v)) (s.forward r (get_or l b.place 0) (ltb-true _ _ m) (k.inside b.place u) (s.turned (get_or l b.place 0) r b.here)))
          behind false m = apart (omega (arith, ltb-false (get_or l b.place 0) r f, ltb-false r (get_or l b.place 0) m))

  -- ---- so the first record with an earlier one's key is the least that has its neighbour's
  module _ (breaks : ℕ → Bool) (breaks-if : (j r : ℕ) → j < r → same j r ≡ true → breaks r ≡ true) (only_if : (r : ℕ) → r < n → breaks r ≡ true → (j : ℕ) × ((j < r) × (same j r ≡ true))) where
    none-less : (r : ℕ) → r < n → (least_repeat same l ≤ suc r → 0 < least_repeat same l → ⊥) → breaks r ≡ false
    none-less r h no_less = go (breaks r) refl
      where
        go : (t : Bool) → breaks r ≡ t → t ≡ false
        go false e = refl
        go true e =
            let w : (j : ℕ) × ((j < r) × (same j r ≡ true)) = only_if r h e in
            let u : UpTo (suc r) (least_repeat same l) = least-below same l r (beside w.0 r w.1.0 h w.1.1) in
            absurd (no_less u.1 u.0)

    pub first-is-least : first_that breaks n ≡ least_repeat same l
    first-is-least = go (least_repeat same l) refl
      where
        go : (m : ℕ) → least_repeat same l ≡ m → first_that breaks n ≡ m
        go zero e = none_first breaks n (λ r h. none-less r h (λ p q. omega arith))
        go (suc r) e =
            let b : Beside same l r = least-is same l r e in
            found_first breaks n r (record {
              from = omega arith;
              inside = omega (arith, k.inside (suc b.place) (omega (arith, b.inside, k.long)), b.is);
              here = breaks-if (get_or l b.place 0) r (earlier r b) b.here;
              before = λ q o g. none-less q (omega (arith, k.inside (suc b.place) (omega (arith, b.inside, k.long)), b.is)) (λ x y. omega arith);
            })
