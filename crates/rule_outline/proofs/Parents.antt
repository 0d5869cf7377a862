-- What a parent is: the nearest earlier record of lower Level, and no other. The way to it goes from parent to parent.
-- Assumes nothing.
use Prim.Native.Nat.{ℕ, zero, suc, ◌≤◌, ◌<◌}
use mathlib.Core.Path.{◌≡◌, refl, sym, ap, ◌∙◌}
use mathlib.Core.Bool.{Bool, true, false}
use mathlib.Core.Logic.{◌⊎◌, inl, inr, ⊎_elim}
use mathlib.Core.List.{[]}
use native.Mathlib.Numerals.{add-one}
use native.Mathlib.Omega.{arith}
use borrow.Author.Tests.{ltb-true, ltb-false, lt-ltb, le-ltb}
use lib.ListN.{length, get_or, length-append, get_or-append}
use lib.Seq.{get_or_at}
use lib.Dec.{ltb}
use Rattle.rule_outline.specs.Outline.{lower_before, parent_by, parents_up_to}

-- record q is the nearest of the first n records that is of lower Level than l
pub record Nearest (levels : ℕ → ℕ) (l n q : ℕ) : Type 0 where
  pub earlier : q < n
  pub lower : levels q < l
  pub nearest : (k : ℕ) → q < k → k < n → l ≤ levels k

-- record q is the parent of record r
abbrev pub IsParent : (ℕ → ℕ) → ℕ → ℕ → Type 0
IsParent levels r q = Nearest levels (levels r) r q

pub lower-or-not : (a b : ℕ) → (a < b) ⊎ (b ≤ a)
lower-or-not a b = told (ltb a b) refl
  where
    told : (t : Bool) → ltb a b ≡ t → (a < b) ⊎ (b ≤ a)
    told true e = inl (ltb-true a b e)
    told false e = inr (ltb-false a b e)

-- ---- The search for a lower record
module _ (levels : ℕ → ℕ) (l n : ℕ) where
  pub lower-hit : levels n < l → lower_before levels l (suc n) ≡ suc n
  unfolding lower_before
  lower-hit h = rw (lt-ltb (levels n) l h, lower_before)

  pub lower-miss : l ≤ levels n → lower_before levels l (suc n) ≡ lower_before levels l n
  unfolding lower_before
  lower-miss h = rw (le-ltb (levels n) l h, lower_before)

module _ (levels : ℕ → ℕ) (l : ℕ) where
  pub lower-within : (n : ℕ) → lower_before levels l n ≤ n
  unfolding lower_before
  lower-within zero = omega arith
  lower-within (suc n) =
      ⊎_elim
      (λ h. omega (arith, lower-hit levels l n h))
      (λ h. omega (arith, lower-miss levels l n h, lower-within n))
      (lower-or-not (levels n) l)

  -- one record more: it is the nearest itself, or the nearest before it stays so
  nearest-here : (n : ℕ) → levels n < l → Nearest levels l (suc n) n
  nearest-here n h = record { earlier = omega arith; lower = h; nearest = λ k p s. absurd (omega arith) }

  nearest-stays : (n q : ℕ) → l ≤ levels n → Nearest levels l n q → Nearest levels l (suc n) q
  nearest-stays n q h w =
      record {
        earlier = omega arith;
        lower = w.lower;
        nearest = λ k p s. ⊎_elim (λ b. w.nearest k p b) (λ b. at_last k (omega arith)) (lower-or-not k n);
      }
    where
      at_last : (k : ℕ) → n ≡ k → l ≤ levels k
      at_last k z = rw z at h

  -- the nearest lower record is found, and what is found is it
  pub found-is-nearest : (n q : ℕ) → lower_before levels l n ≡ suc q → Nearest levels l n q
  unfolding lower_before
  found-is-nearest zero q e = absurd (omega arith)
  found-is-nearest (suc n) q e =
      ⊎_elim
      (λ h.
      let z : n ≡ q = omega (arith, lower-hit levels l n h) in
      rw (← z) (nearest-here n h))
      (λ h. nearest-stays n q h (found-is-nearest n q (sym (lower-miss levels l n h) ∙ e)))
      (lower-or-not (levels n) l)

  pub nearest-is-found : (n q : ℕ) → Nearest levels l n q → lower_before levels l n ≡ suc q
  nearest-is-found zero q w = absurd (omega arith)
  nearest-is-found (suc n) q w =
      ⊎_elim
      (λ h.
      lower-miss levels l n (w.nearest n h (omega arith))
      ∙ nearest-is-found n q (record { earlier = h; lower = w.lower; nearest = λ k p s. w.nearest k p (omega arith) }))
      (λ h.
      let z : q ≡ n = omega arith in
      lower-hit levels l n (rw z at w.lower) ∙ ap suc (sym z))
      (lower-or-not q n)

  -- nothing is found exactly if no record is lower
  pub none_found : (n : ℕ) → lower_before levels l n ≡ 0 → (k : ℕ) → k < n → l ≤ levels k
  none_found zero e k h = absurd (omega arith)
  none_found (suc n) e k h =
      ⊎_elim
      (λ p. absurd (omega (arith, lower-hit levels l n p)))
      (λ p.
      ⊎_elim
      (λ s. none_found n (sym (lower-miss levels l n p) ∙ e) k s)
      (λ s.
      let z : n ≡ k = omega arith in
      rw z at p)
      (lower-or-not k n))
      (lower-or-not (levels n) l)

  pub none-lower : (n : ℕ) → ((k : ℕ) → k < n → l ≤ levels k) → lower_before levels l n ≡ 0
  unfolding lower_before
  none-lower zero h = refl
  none-lower (suc n) h = lower-miss levels l n (h n (omega arith)) ∙ none-lower n (λ k s. h k (omega arith))

  -- past a record that is not lower, the search may go on at its parent
  pub lower-through : (m n : ℕ) → l ≤ m → lower_before levels l n ≡ lower_before levels l (lower_before levels m n)
  unfolding lower_before
  lower-through m zero h = refl
  lower-through m (suc n) h =
      ⊎_elim
      (λ p. ap (lower_before levels l) (sym (lower-hit levels m n p)))
      (λ p. lower-miss levels l n (omega arith) ∙ (lower-through m n h ∙ ap (lower_before levels l) (sym (lower-miss levels m n p))))
      (lower-or-not (levels n) m)

-- ---- Parents
module _ (levels : ℕ → ℕ) where
  pub parent-is-nearest : (r q : ℕ) → parent_by levels r ≡ suc q → IsParent levels r q
  unfolding parent_by
  parent-is-nearest r q = found-is-nearest levels (levels r) r q

  pub nearest-is-parent : (r q : ℕ) → IsParent levels r q → parent_by levels r ≡ suc q
  unfolding parent_by
  nearest-is-parent r q = nearest-is-found levels (levels r) r q

  pub parent-unique : (r p q : ℕ) → IsParent levels r p → IsParent levels r q → p ≡ q
  parent-unique r p q a b = omega (arith, nearest-is-parent r p a, nearest-is-parent r q b)

  -- a record has no parent exactly if no earlier record has a lower Level
  pub no-parent : (r : ℕ) → parent_by levels r ≡ 0 → (k : ℕ) → k < r → levels r ≤ levels k
  unfolding parent_by
  no-parent r = none_found levels (levels r) r

  pub no-parent-where-none-lower : (r : ℕ) → ((k : ℕ) → k < r → levels r ≤ levels k) → parent_by levels r ≡ 0
  unfolding parent_by
  no-parent-where-none-lower r = none-lower levels (levels r) r

  pub parent-within : (r : ℕ) → parent_by levels r ≤ r
  unfolding parent_by
  parent-within r = lower-within levels (levels r) r

  -- ---- The list of parents
  pub parents-length : (n : ℕ) → length (parents_up_to levels n) ≡ n
  unfolding parents_up_to
  parents-length zero = refl
  parents-length (suc n) = rw (length-append, parents-length n) (add-one n)

  pub parents-at : (n r : ℕ) → r < n → get_or (parents_up_to levels n) r 0 ≡ parent_by levels r
  unfolding parents_up_to
  parents-at zero r h = absurd (omega arith)
  parents-at (suc n) r h =
      ⊎_elim
      (λ p. get_or-append (parents_up_to levels n) _ 0 r (omega (arith, parents-length n)) ∙ parents-at n r p)
      (λ p.
      let z : n ≡ r = omega arith in
      get_or_at (parents_up_to levels n) _ [] 0 r (parents-length n ∙ z) ∙ ap (parent_by levels) z)
      (lower-or-not r n)
