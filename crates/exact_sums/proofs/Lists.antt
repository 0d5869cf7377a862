-- A list of whole numbers by what stands at each place, and as a loop fills it from the front.
-- Assumes nothing.
use Prim.Native.Nat.{ℕ, zero, suc, ◌+◌, ◌≤◌, ◌<◌}
use mathlib.Core.Path.{◌≡◌, refl, sym, ◌∙◌}
use mathlib.Core.List.{List, [], ◌∷◌, ◌++◌}
use mathlib.Core.Logic.{⊎_elim}
use native.Mathlib.Nat.{eq-or-lt_of_le}
use native.Mathlib.Omega.{arith}
use borrow.Author.Count.{below_more}
use lib.ListN.{length, get_or, set, length-append, length-set, get_or-append}
use lib.Seq.{get_or_at, get_or-set_same, get_or-set_other, ext_get_or}
use lib.IntN.{ℤ, pos}
use Rattle.exact_sums.specs.Sums.{wholes, whole_at}

module _ (f : ℕ → ℤ) where
  pub wholes-length : (n : ℕ) → length (wholes f n) ≡ n
  unfolding wholes
  wholes-length zero = refl
  wholes-length (suc n) = omega (arith, length-append (wholes f n) (f n ∷ []), wholes-length n)

  pub whole-at : (n i : ℕ) → i < n → whole_at (wholes f n) i ≡ f i
  unfolding wholes whole_at
  whole-at zero i l = absurd (omega arith)
  whole-at (suc n) i l =
      below_more (λ k. get_or (wholes f n ++ (f n ∷ [])) k (pos 0) ≡ f k) n
      (λ k b. get_or-append (wholes f n) (f n ∷ []) (pos 0) k (omega (arith, wholes-length n)) ∙ whole-at n k b)
      (get_or_at (wholes f n) (f n) [] (pos 0) n (wholes-length n))
      i
      (omega arith)

  -- a list is such a one where it has these numbers
  pub wholes-are : (n : ℕ) (l : List ℤ) → length l ≡ n → ((i : ℕ) → i < n → whole_at l i ≡ f i) → l ≡ wholes f n
  unfolding whole_at
  wholes-are n l e h =
      ext_get_or (pos 0) l (wholes f n) (e ∙ sym (wholes-length n))
      (λ i b. h i (omega arith) ∙ sym (whole-at n i (omega arith)))

pub wholes-same : (f g : ℕ → ℤ) (n : ℕ) → ((i : ℕ) → i < n → f i ≡ g i) → wholes f n ≡ wholes g n
wholes-same f g n h = wholes-are g n (wholes f n) (wholes-length f n) (λ i l. whole-at f n i l ∙ h i l)

-- ---- the first i places are new, and the rest as they were
pub record Filled (f : ℕ → ℤ) (old : List ℤ) (i : ℕ) (list : List ℤ) : Type 0 where
  pub new : (j : ℕ) → j < i → whole_at list j ≡ f j
  pub rest : (j : ℕ) → i ≤ j → whole_at list j ≡ whole_at old j
  pub long : length list ≡ length old

module _ (f : ℕ → ℤ) (old : List ℤ) where
  pub fill-starts : Filled f old 0 old
  fill-starts = record { new = λ j l. absurd (omega arith); rest = λ j l. refl; long = refl }

  module _ {i : ℕ} {list : List ℤ} (so_far : Filled f old i list) where
    pub fill-stores : i < length old → (v : ℤ) → v ≡ f i → Filled f old (i + 1) (set list i v)
    unfolding whole_at
    fill-stores l v e =
        record {
          new = λ j b. ⊎_elim (λ q. rw q (get_or-set_same list i v (pos 0) (omega (arith, so_far.long)) ∙ e)) (λ h. get_or-set_other list i j v (pos 0) (λ q. omega arith) ∙ so_far.new j h) (eq-or-lt_of_le {n = j} {m = i} (omega arith));
          rest = λ j b. get_or-set_other list i j v (pos 0) (λ q. omega arith) ∙ so_far.rest j (omega arith);
          long = length-set list i v ∙ so_far.long;
        }

    pub fill-ends : (n : ℕ) → length old ≡ n → n ≤ i → list ≡ wholes f n
    fill-ends n e l = wholes-are f n list (so_far.long ∙ e) (λ j b. so_far.new j (omega arith))
