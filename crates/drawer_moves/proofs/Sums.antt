-- Sums over the files, and numbers in a list.
-- Assumes nothing.
use Prim.Native.Nat.{ℕ, zero, suc, ◌+◌, ◌≤◌, ◌<◌}
use mathlib.Core.Path.{◌≡◌, refl, ◌∙◌}
use mathlib.Core.Logic.{⊎_elim}
use mathlib.Core.List.{[], ◌∷◌}
use native.Mathlib.Omega.{arith}
use lib.ListN.{length, get_or, length-append, get_or-append}
use lib.Seq.{get_or_at}
use Rattle.drawer_layout.specs.Places.{total, list_of}
use Rattle.drawer_layout.proofs.Laws.{last-or-before}

module _ (h g : ℕ → ℕ) where
  pub total-same : (n : ℕ) → ((j : ℕ) → j < n → h j ≡ g j) → total h n ≡ total g n
  unfolding total
  total-same zero f = refl
  total-same (suc n) f = rw (total-same n (λ j l. f j (omega arith)), f n (omega arith))

  pub total-le : (n : ℕ) → ((j : ℕ) → j < n → h j ≤ g j) → total h n ≤ total g n
  unfolding total
  total-le zero f = omega arith
  total-le (suc n) f = omega (arith, total-le n (λ j l. f j (omega arith)), f n (omega arith))

  -- more of one, and no less of the others
  pub total-more : (n i x : ℕ) → i < n → ((j : ℕ) → j < n → h j ≤ g j) → h i + x ≤ g i → total h n + x ≤ total g n
  unfolding total
  total-more zero i x l f e = absurd (omega arith)
  total-more (suc n) i x l f e =
      ⊎_elim (λ q. let z : h n + x ≤ g n = rw q at e in omega (arith, total-le n (λ j k. f j (omega arith)))) (λ q. omega (arith, total-more n i x q (λ j k. f j (omega arith)) e, f n (omega arith)))
      (last-or-before i n l)

  -- more of one, and the same of the others
  pub total-step : (n i x : ℕ) → i < n → g i ≡ h i + x → ((j : ℕ) → j < n → (j ≡ i → ⊥) → g j ≡ h j) → total g n ≡ total h n + x
  unfolding total
  total-step zero i x l e f = absurd (omega arith)
  total-step (suc n) i x l e f =
      ⊎_elim (λ q. let z : g n ≡ h n + x = rw q at e in let s : total g n ≡ total h n = swap n (λ j k. f j (omega arith) (λ r. omega arith)) in omega arith)
      (λ q. omega (arith, total-step n i x q e (λ j k d. f j (omega arith) d), f n (omega arith) (λ r. omega arith))) (last-or-before i n l)
    where
      swap : (n : ℕ) → ((j : ℕ) → j < n → g j ≡ h j) → total g n ≡ total h n
      swap zero f = refl
      swap (suc n) f = rw (swap n (λ j l. f j (omega arith)), f n (omega arith))

pub total-none : (h : ℕ → ℕ) (n : ℕ) → ((j : ℕ) → j < n → h j ≡ 0) → total h n ≡ 0
unfolding total
total-none h zero f = refl
total-none h (suc n) f = rw (total-none h n (λ j l. f j (omega arith)), f n (omega arith))

module _ (h : ℕ → ℕ) where
  pub list_length : (n : ℕ) → length (list_of h n) ≡ n
  unfolding list_of
  list_length zero = refl
  list_length (suc n) = omega (arith, length-append (list_of h n) (h n ∷ []), list_length n)

  pub list_at : (n i : ℕ) → i < n → get_or (list_of h n) i 0 ≡ h i
  unfolding list_of
  list_at zero i l = absurd (omega arith)
  list_at (suc n) i l =
      ⊎_elim (λ q. rw q (get_or_at (list_of h n) (h n) [] 0 n (list_length n)))
      (λ q. get_or-append (list_of h n) (h n ∷ []) 0 i (omega (arith, list_length n)) ∙ list_at n i q) (last-or-before i n l)
