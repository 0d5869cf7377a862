-- The refusals as document 01's table has them: each number with its test, in the table's order, and each given only in its
-- case.
-- Assumes nothing.
use Prim.Native.Nat.{ℕ, suc, ◌≤◌, ◌<◌}
use mathlib.Core.Path.{◌≡◌, refl, sym, ◌∙◌}
use mathlib.Core.Bool.{Bool, true, false, cond, not, ◌&&◌, ◌||◌, or-true, or-false, true≢false}
use mathlib.Core.Logic.{◌⊎◌, inl, inr}
use mathlib.Core.List.{List, [], ◌∷◌, ◌++◌}
use native.Mathlib.Omega.{arith}
use borrow.Author.Tests.{lt-ltb, le-ltb, ltb-true, leb-true, leb-false, eq-eqb, ne_eqb, eqb-false, not-true}
use lib.ListN.{length}
use lib.Dec.{leb, ltb, eqb}
use Rattle.json_bytes.proofs.Laws.{by-test, both_left, both_right}
use Rattle.bundle_bytes.specs.Words.{word_at}
use Rattle.parts.specs.Files.{File}
use Rattle.bundle_layout.specs.Bundle.{header_size, laid_out, bundle_fault, lookup_fault, bundle_length}
use Rattle.bundle_layout.specs.Change.{files_after, try_fault, make_fault}

-- the first in a list of numbers whose test holds; 0 where none does
unfoldable pub first_refusal : List (Bool × ℕ) → ℕ
first_refusal [] = 0
first_refusal (x ∷ xs) = cond x.0 x.1 (first_refusal xs)

past-last : (n k : ℕ) → ltb k n ≡ not (leb n k)
past-last n k = go (leb n k) refl
  where
    go : (t : Bool) → leb n k ≡ t → ltb k n ≡ not t
    go true e = le-ltb k n (leb-true n k e)
    go false e = lt-ltb k n (leb-false n k e)

-- one more row, behind rows that come first
is_numbered : List (Bool × ℕ) → Bool
is_numbered [] = true
is_numbered (x ∷ xs) = ltb 0 x.1 && is_numbered xs

one_more : (rows : List (Bool × ℕ)) (t : Bool) (r : ℕ) {x : ℕ} → is_numbered rows ≡ true → x ≡ first_refusal rows → cond (eqb x 0) (cond t r 0) x ≡ first_refusal (rows ++ ((t, r) ∷ []))
unfolding first_refusal is_numbered
one_more rows t r h e = rw e (go rows h)
  where
    step : (y : Bool × ℕ) (u v : ℕ) → 0 < y.1 → cond (eqb u 0) (cond t r 0) u ≡ v → cond (eqb (cond y.0 y.1 u) 0) (cond t r 0) (cond y.0 y.1 u) ≡ cond y.0 y.1 v
    step y u v l e = by-test (λ z. cond (eqb z 0) (cond t r 0) z ≡ cond y.0 y.1 v) y.0 y.1 u (λ q. rw (q, ne_eqb y.1 0 (λ z. omega arith))) (λ q. rw q e)

    go : (rows : List (Bool × ℕ)) → is_numbered rows ≡ true → cond (eqb (first_refusal rows) 0) (cond t r 0) (first_refusal rows) ≡ first_refusal (rows ++ ((t, r) ∷ []))
    go [] h = refl
    go (y ∷ ys) h = step y (first_refusal ys) (first_refusal (ys ++ ((t, r) ∷ []))) (ltb-true 0 y.1 (both_left (ltb 0 y.1) (is_numbered ys) h)) (go ys (both_right (ltb 0 y.1) (is_numbered ys) h))

-- a number is given only where the test beside it holds
unfoldable pub is_case : ℕ → List (Bool × ℕ) → Bool
is_case r [] = false
is_case r (x ∷ xs) = (eqb x.1 r && x.0) || is_case r xs

pub in-case : (rows : List (Bool × ℕ)) (r : ℕ) → first_refusal rows ≡ suc r → is_case (suc r) rows ≡ true
unfolding first_refusal is_case
in-case [] r e = absurd (omega (arith, e))
in-case (x ∷ xs) r e = go x.0 refl (in-case xs r)
  where
    go : (t : Bool) → x.0 ≡ t → (first_refusal xs ≡ suc r → is_case (suc r) xs ≡ true) → ((eqb x.1 (suc r) && x.0) || is_case (suc r) xs) ≡ true
    go true q later =
        let n : x.1 ≡ suc r = rw q at e in
        rw (eq-eqb x.1 (suc r) n, q)
    go false q later = rw (later (rw q at e)) (or-true (eqb x.1 (suc r) && x.0))

-- document 01's table, for a bundle of n files, in its order: "Order: 1, 2, 3, 4, 6, 5; trying a change can give 6 but never 5"
unfoldable pub bundle_rows : ℕ → List ℕ → List (Bool × ℕ)
bundle_rows n s =
    (ltb (length s) (header_size n) || ltb 1048576 (length s), 1) ∷ (not (eqb (word_at s 0) n), 2) ∷ (not (laid_out n s), 3) ∷ []

unfoldable pub lookup_rows : ℕ → List ℕ → ℕ → List (Bool × ℕ)
lookup_rows n s k = bundle_rows n s ++ ((leb n k, 4) ∷ [])

unfoldable pub try_rows : ℕ → List ℕ → ℕ → File → List (Bool × ℕ)
try_rows n s k f = lookup_rows n s k ++ ((ltb 1048576 (bundle_length n (files_after s k f)), 6) ∷ [])

unfoldable pub make_rows : ℕ → List ℕ → ℕ → File → ℕ → List (Bool × ℕ)
make_rows n s k f room = try_rows n s k f ++ ((ltb room (bundle_length n (files_after s k f)), 5) ∷ [])

module _ (n : ℕ) (s : List ℕ) where
  pub bundle-refusals : bundle_fault n s ≡ first_refusal (bundle_rows n s)
  unfolding bundle_fault first_refusal bundle_rows
  bundle-refusals = go (ltb (length s) (header_size n) || ltb 1048576 (length s)) (eqb (word_at s 0) n) (laid_out n s)
    where
      go : (a b c : Bool) → cond a 1 (cond b (cond c 0 3) 2) ≡ first_refusal ((a, 1) ∷ (not b, 2) ∷ (not c, 3) ∷ [])
      go true b c = refl
      go false true true = refl
      go false true false = refl
      go false false c = refl

  module _ (k : ℕ) where
    pub lookup-refusals : lookup_fault n s k ≡ first_refusal (lookup_rows n s k)
    unfolding lookup_fault lookup_rows is_numbered bundle_rows
    lookup-refusals = rw (past-last n k, turned (leb n k)) (one_more (bundle_rows n s) (leb n k) 4 refl bundle-refusals)
      where
        turned : (t : Bool) → ◌≡◌ {A = ℕ} (cond (not t) 0 4) (cond t 4 0)
        turned true = refl
        turned false = refl

    module _ (f : File) where
      pub try-refusals : try_fault n s k f ≡ first_refusal (try_rows n s k f)
      unfolding try_fault try_rows is_numbered lookup_rows bundle_rows
      try-refusals = one_more (lookup_rows n s k) (ltb 1048576 (bundle_length n (files_after s k f))) 6 refl lookup-refusals

      pub make-refusals : (room : ℕ) → make_fault n s k f room ≡ first_refusal (make_rows n s k f room)
      unfolding make_fault make_rows try_rows is_numbered lookup_rows bundle_rows
      make-refusals room = one_more (try_rows n s k f) (ltb room (bundle_length n (files_after s k f))) 5 refl try-refusals

      pub never-5 : try_fault n s k f ≡ 5 → ⊥
      unfolding is_case try_rows lookup_rows bundle_rows
      never-5 e = true≢false (sym (in-case (try_rows n s k f) 4 (sym try-refusals ∙ e)))

      -- each only in its case
      module _ (room : ℕ) where
        refused-in-case : (r : ℕ) → make_fault n s k f room ≡ suc r → is_case (suc r) (make_rows n s k f room) ≡ true
        refused-in-case r e = in-case (make_rows n s k f room) r (sym (make-refusals room) ∙ e)

        pub refused-1 : make_fault n s k f room ≡ 1 → (length s < header_size n) ⊎ (1048576 < length s)
        unfolding is_case make_rows try_rows lookup_rows bundle_rows
        refused-1 e = go (ltb (length s) (header_size n)) refl (rw (or-false (ltb (length s) (header_size n) || ltb 1048576 (length s))) at (refused-in-case 0 e))
          where
            go : (t : Bool) → ltb (length s) (header_size n) ≡ t → (t || ltb 1048576 (length s)) ≡ true → (length s < header_size n) ⊎ (1048576 < length s)
            go true q h = inl (ltb-true (length s) (header_size n) q)
            go false q h = inr (ltb-true 1048576 (length s) h)

        pub refused-2 : make_fault n s k f room ≡ 2 → word_at s 0 ≡ n → ⊥
        unfolding is_case make_rows try_rows lookup_rows bundle_rows
        refused-2 e = eqb-false (word_at s 0) n (not-true (eqb (word_at s 0) n) (rw (or-false (not (eqb (word_at s 0) n))) at (refused-in-case 1 e)))

        pub refused-3 : make_fault n s k f room ≡ 3 → laid_out n s ≡ false
        unfolding is_case make_rows try_rows lookup_rows bundle_rows
        refused-3 e = not-true (laid_out n s) (rw (or-false (not (laid_out n s))) at (refused-in-case 2 e))

        pub refused-4 : make_fault n s k f room ≡ 4 → n ≤ k
        unfolding is_case make_rows try_rows lookup_rows bundle_rows
        refused-4 e = leb-true n k (rw (or-false (leb n k)) at (refused-in-case 3 e))

        pub refused-6 : make_fault n s k f room ≡ 6 → 1048576 < bundle_length n (files_after s k f)
        unfolding is_case make_rows try_rows lookup_rows bundle_rows
        refused-6 e = ltb-true 1048576 (bundle_length n (files_after s k f)) (rw (or-false (ltb 1048576 (bundle_length n (files_after s k f)))) at (refused-in-case 5 e))

        pub refused-5 : make_fault n s k f room ≡ 5 → room < bundle_length n (files_after s k f)
        unfolding is_case make_rows try_rows lookup_rows bundle_rows
        refused-5 e = ltb-true room (bundle_length n (files_after s k f)) (rw (or-false (ltb room (bundle_length n (files_after s k f)))) at (refused-in-case 4 e))
