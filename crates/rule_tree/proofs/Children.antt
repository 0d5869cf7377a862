-- Which elements have a child, from what a parent is: exactly those behind which the next element is of higher Level.
-- Assumes nothing.
use Prim.Native.Nat.{ℕ, suc, ◌+◌, ◌≤◌, ◌<◌}
use mathlib.Core.Path.{◌≡◌, refl, sym, ◌∙◌}
use mathlib.Core.Bool.{Bool, true, false}
use mathlib.Core.Logic.{◌↔◌, ⊎_elim}
use native.Mathlib.Numerals.{add-one}
use native.Mathlib.Omega.{arith}
use borrow.Author.Tests.{eq-eqb, eqb-true, lt-ltb, le-ltb}
use lib.Dec.{ltb, eqb}
use Rattle.rule_outline.specs.Outline.{parent_by}
use Rattle.rule_outline.proofs.Parents.{IsParent, lower-or-not, parent-is-nearest, nearest-is-parent}
use Rattle.rule_outline.proofs.Rules.{some-there, some-is-there}
use Rattle.rule_tree.specs.Tree.{has_child}

module _ (levels : ℕ → ℕ) (n q : ℕ) where
  -- ---- an element has a child exactly if it is the nearest earlier one of lower Level for some element
  pub child-means : (has_child levels n q ≡ true) ↔ ((c : ℕ) × (c < n) × IsParent levels c q)
  unfolding has_child
  child-means = (
    λ e.
        (let w = some-is-there (λ (c : ℕ). eqb (parent_by levels c) (suc q)) n e in
        (w.0, w.1, parent-is-nearest levels w.0 q (eqb-true (parent_by levels w.0) (suc q) w.2))),
    λ w.
        some-there (λ (c : ℕ). eqb (parent_by levels c) (suc q)) n w.0 w.1
        (eq-eqb (parent_by levels w.0) (suc q) (nearest-is-parent levels w.0 q w.2)),
  )

  -- nearer than its child no element is lower than that child, so the next one is of higher Level itself
  next-higher : (c : ℕ) → c < n → IsParent levels c q → (suc q < n) × (levels q < levels (suc q))
  next-higher c l w =
      ⊎_elim
      (λ h. (omega arith, omega (arith, w.lower, w.nearest (suc q) (omega arith) h)))
      (λ h.
      let z : c ≡ suc q = omega (arith, w.earlier) in
      (omega arith, rw z at w.lower))
      (lower-or-not (suc q) c)

  -- and where the next one is, it is a child
  next-child : levels q < levels (suc q) → IsParent levels (suc q) q
  next-child h = record { earlier = omega arith; lower = h; nearest = λ k p s. absurd (omega arith) }

  -- ---- "has a child exactly if the next record is of higher Level"
  pub child-is-next : (has_child levels n q ≡ true) ↔ ((suc q < n) × (levels q < levels (suc q)))
  child-is-next = (
    λ e. (let w = child-means.0 e in next-higher w.0 w.1 w.2),
    λ h. child-means.1 (suc q, h.0, next-child h.1),
  )

  -- ---- as the code asks it
  not-true : (b : Bool) → (b ≡ true → ⊥) → b ≡ false
  not-true true h = absurd (h refl)
  not-true false h = refl

  pub last-has-none : n ≤ q + 1 → false ≡ has_child levels n q
  last-has-none h = sym (not-true (has_child levels n q) (λ e. omega (arith, child-is-next.0 e)))

  pub next-tells : q + 1 < n → {a b : ℕ} → a ≡ levels q → b ≡ levels (q + 1) → ltb a b ≡ has_child levels n q
  next-tells h {a} {b} e f =
      ⊎_elim
      (λ l. lt-ltb a b l ∙ sym (child-is-next.1 (omega arith, higher l)))
      (λ l. le-ltb a b l ∙ sym (not-true (has_child levels n q) (λ c. lower l (child-is-next.0 c).1)))
      (lower-or-not a b)
    where
      higher : a < b → levels q < levels (suc q)
      higher l = rw (e, f, add-one q) at l

      lower : b ≤ a → levels q < levels (suc q) → ⊥
      lower l c =
          let z : levels (suc q) ≤ levels q = rw (e, f, add-one q) at l in
          omega arith

pub ruleset having = (last-has-none, next-tells)
