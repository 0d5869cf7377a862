-- One turn of each loop over bytes, as an equation between what is left to read before it and after it.
-- Assumes nothing.
use Rattle.std.specs.Prelude.{Ok}
use Prim.Native.Nat.{ℕ, zero, suc, ◌+◌, ◌≤◌, ◌<◌}
use mathlib.Core.Path.{◌≡◌, refl}
use mathlib.Core.Bool.{Bool, true, false, cond, ◌&&◌}
use mathlib.Core.List.{List, [], ◌∷◌}
use native.Mathlib.Nat.{add-zero, add-suc}
use native.Mathlib.Numerals.{add-one}
use native.Mathlib.Omega.{arith}
use borrow.Author.Tests.{eq-eqb, ne_eqb, leb-true}
use lib.ListN.{length, get_or, drop, drop_of_length-le}
use lib.Seq.{drop-cons}
use lib.Dec.{leb}
use Rattle.json_bytes.specs.Reads.{leading, within, byte_at, spelled_at, fault_at}

-- ---- tests
pub by-test : {A : Type 0} (P : A → Type 0) (t : Bool) (a b : A) → (t ≡ true → P a) → (t ≡ false → P b) → P (cond t a b)
by-test P true a b f g = f refl
by-test P false a b f g = g refl

-- where the test does not matter
pub either : {A : Type 0} (P : A → Type 0) (t : Bool) (a b : A) → P a → P b → P (cond t a b)
either P t a b p q = by-test P t a b (λ _. p) (λ _. q)

-- where one test decides two things
pub together : {A B : Type 0} (P : A → B → Type 0) (t : Bool) (a b : A) (c d : B) → P a c → P b d → P (cond t a b) (cond t c d)
together P true a b c d p q = p
together P false a b c d p q = q

pub both_left : (a b : Bool) → (a && b) ≡ true → a ≡ true
both_left true b e = refl
both_left false b e = e

pub both_right : (a b : Bool) → (a && b) ≡ true → b ≡ true
both_right true b e = e
both_right false b e = cc

module _ (lo hi x : ℕ) (e : within lo hi x ≡ true) where
  pub within-from : lo ≤ x
  unfolding within
  within-from = leb-true lo x (both_left (leb lo x) (leb x hi) e)

  pub within-to : x ≤ hi
  unfolding within
  within-to = leb-true x hi (both_right (leb lo x) (leb x hi) e)

-- a byte that is not 0 stands inside the file
pub inside : (s : List ℕ) (i b : ℕ) → byte_at s i ≡ b → 0 < b → i < length s
inside [] i b e h = omega (arith, e)
inside (x ∷ xs) zero b e h = omega arith
inside (x ∷ xs) (suc i) b e h = omega (arith, inside xs i b e h)

-- ---- a run of bytes that pass a test
module _ (f : ℕ → Bool) (s : List ℕ) (i : ℕ) where
  pub run_more : i < length s → f (byte_at s i) ≡ true → i + leading f (drop i s) ≡ (i + 1) + leading f (drop (i + 1) s)
  unfolding leading
  run_more l e = rw (drop-cons s i 0 l, e, leading, add-one i) (omega arith)

  pub run-stops : i < length s → f (byte_at s i) ≡ false → i + leading f (drop i s) ≡ i
  unfolding leading
  run-stops l e = rw (drop-cons s i 0 l, e, leading) (add-zero i)

  pub run_ends : length s ≤ i → i + leading f (drop i s) ≡ i
  unfolding leading
  run_ends l = rw (drop_of_length-le s l) (add-zero i)

-- a run stays within the file
pub leading-bound : (f : ℕ → Bool) (l : List ℕ) → leading f l ≤ length l
unfolding leading
leading-bound f [] = omega arith
leading-bound f (b ∷ bs) = go (f b) (leading-bound f bs)
  where
    go : (t : Bool) → leading f bs ≤ length bs → (elim t [ true ↦ suc (leading f bs) | false ↦ 0 ]) ≤ suc (length bs)
    go true h = omega arith
    go false h = omega arith

-- ---- a word, letter by letter
module _ (s : List ℕ) (at : ℕ) (word : List ℕ) (k : ℕ) where
  pub word_more : k < length word → byte_at s (at + k) ≡ get_or word k 0 → spelled_at s (at + k) (drop k word) ≡ spelled_at s (at + (k + 1)) (drop (k + 1) word)
  unfolding spelled_at
  word_more l e = rw (drop-cons word k 0 l, eq-eqb _ _ e, spelled_at, add-one k, add-suc at k, add-one (at + k))

  pub word-stops : k < length word → (byte_at s (at + k) ≡ get_or word k 0 → ⊥) → spelled_at s (at + k) (drop k word) ≡ fault_at 11 (at + k)
  unfolding spelled_at
  word-stops l e = rw (drop-cons word k 0 l, ne_eqb _ _ e, spelled_at)

  pub word-ends : length word ≤ k → spelled_at s (at + k) (drop k word) ≡ Ok (at + k)
  unfolding spelled_at
  word-ends l = rw (drop_of_length-le word l)
