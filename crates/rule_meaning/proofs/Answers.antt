-- What an answer says, once for every rule: a test that fails exactly where a record keeps the rule finds the first record
-- that does not.
-- Assumes nothing.
use Prim.Native.Nat.{ℕ, ◌<◌}
use mathlib.Core.Path.{◌≡◌, refl, sym, ◌∙◌}
use mathlib.Core.Bool.{Bool, true, false, true≢false}
use mathlib.Core.Logic.{◌↔◌}
use native.Mathlib.Numerals.{add-one}
use native.Mathlib.Omega.{arith}
use Rattle.rule_cells.specs.Cells.{first_that}
use Rattle.rule_cells.proofs.First.{First, first_found, found_first, first-is-none}
use Rattle.rule_meaning.specs.Keeps.{Answers}

-- a test that is not false is true
pub not-false-true : (b : Bool) → (b ≡ false → ⊥) → b ≡ true
not-false-true true h = refl
not-false-true false h = absurd (h refl)

-- and one that is not true is false
pub not-true-false : (b : Bool) → (b ≡ true → ⊥) → b ≡ false
not-true-false true h = absurd (h refl)
not-true-false false h = refl

pub never_both : {b : Bool} → b ≡ true → b ≡ false → ⊥
never_both p q = true≢false (sym p ∙ q)

module _ (breaks : ℕ → Bool) (Keeps : ℕ → Type 0) (told : (r : ℕ) → (breaks r ≡ false) ↔ Keeps r) (n : ℕ) where
  found : (r : ℕ) → First breaks n 0 r → (r < n) × (Keeps r → ⊥) × ((j : ℕ) → j < r → Keeps j)
  found r f = (
    omega (arith, f.inside),
    λ keeps. never_both f.here ((told r).1 keeps),
    λ j l. (told j).0 (f.before j (omega arith) l),
  )

  first : (r : ℕ) → (r < n) × (Keeps r → ⊥) × ((j : ℕ) → j < r → Keeps j) → First breaks n 0 r
  first r h = record {
    from = omega arith;
    inside = omega arith;
    here = not-false-true (breaks r) (λ e. h.1 ((told r).0 e));
    before = λ j o l. (told j).1 (h.2 j l);
  }

  pub answers : Answers Keeps n (first_that breaks n)
  answers =
      let none = first-is-none breaks n in
      record {
        holds = (λ e r l. (told r).0 (none.0 e r l), λ h. none.1 (λ r l. (told r).1 (h r l)));
        breaks = λ r. (λ e. found r (first_found breaks n r (e ∙ add-one r)), λ h. found_first breaks n r (first r h) ∙ sym (add-one r));
      }
