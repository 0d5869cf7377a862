-- A file where its three numbers say, and after one file was put somewhere: that one stands there, every other as before.
-- Assumes nothing.
use Prim.Native.Nat.{ℕ, ◌+◌, ◌*◌, ◌/◌, ◌≤◌, ◌<◌}
use mathlib.Core.Path.{◌≡◌, refl, sym, ap, ◌∙◌}
use mathlib.Core.Bool.{Bool, true, false, cond}
use mathlib.Core.List.{List, []}
use native.Mathlib.Omega.{arith}
use native.Mathlib.Nat.{add-zero}
use borrow.Author.Tests.{lt-ltb, le-leb, lt-leb, eq-eqb, ne_eqb}
use lib.ListN.{length, set, length-set, get_or-eq_default}
use lib.Seq.{get_or-set_same, get_or-set_other}
use lib.Dec.{ltb, leb}
use Rattle.parts.specs.Part.{part_of}
use Rattle.parts.specs.Files.{Left, Given, is_present, bytes_of}
use Rattle.standing.specs.Standing.{number_of, slice_of, is_there, standing, start_standing, standing_with}

-- ---- past the end of the list there are only numbers that are 0
pub number_past : (stand : List ℕ) (k j : ℕ) → length stand ≤ 3 * k + j → 0 ≡ number_of stand k j
unfolding number_of
number_past stand k j l = sym (get_or-eq_default stand 0 l)

-- ---- a file by its numbers
module _ (a b c stand : List ℕ) (k : ℕ) where
  pub stands-nowhere : number_of stand k 0 ≡ 0 → standing a b c stand k ≡ Left
  unfolding standing is_there
  stands-nowhere e = rw (eq-eqb (number_of stand k 0) 0 e)

  pub stands-there : (number_of stand k 0 ≡ 0 → ⊥) → standing a b c stand k ≡ Given (part_of (slice_of a b c (number_of stand k 0)) (number_of stand k 1) (number_of stand k 2))
  unfolding standing is_there
  stands-there n = rw (ne_eqb (number_of stand k 0) 0 n)

  pub there-present : is_there stand k ≡ is_present (standing a b c stand k)
  unfolding standing is_present
  there-present = go (is_there stand k) _
    where
      go : (t : Bool) (bytes : List ℕ) → t ≡ is_present (cond t (Given bytes) Left)
      go true bytes = refl
      go false bytes = refl

  -- its bytes, as the code takes them from one slice or another
  pub bytes-nowhere : number_of stand k 0 ≡ 0 → [] ≡ bytes_of (standing a b c stand k)
  unfolding bytes_of
  bytes-nowhere e = sym (ap bytes_of (stands-nowhere e))

  pub bytes-there : (which from to : ℕ) → which ≡ number_of stand k 0 → from ≡ number_of stand k 1 → to ≡ number_of stand k 2 → (which ≡ 0 → ⊥) → (s r : List ℕ) → slice_of a b c which ≡ s → r ≡ part_of s from to → r ≡ bytes_of (standing a b c stand k)
  unfolding bytes_of
  bytes-there which from to e f g n s r is r-is =
      r-is ∙ rw (← is, e, f, g) (sym (ap bytes_of (stands-there (λ z. n (e ∙ z)))))

-- ---- which slice a number stands for
module _ (a b c : List ℕ) (which : ℕ) where
  pub slice_first : which ≡ 1 → slice_of a b c which ≡ a
  unfolding slice_of
  slice_first e = rw (eq-eqb which 1 e)

  pub slice-second : which ≡ 2 → slice_of a b c which ≡ b
  unfolding slice_of
  slice-second e = rw e

  pub slice-third : (which ≡ 1 → ⊥) → (which ≡ 2 → ⊥) → slice_of a b c which ≡ c
  unfolding slice_of
  slice-third m n = rw (ne_eqb which 1 m, ne_eqb which 2 n)

-- ---- where a file starts in its slice, as the code finds it
module _ (a b c stand : List ℕ) (k which from long : ℕ) (which-is : which ≡ number_of stand k 0) (from_is : from ≡ number_of stand k 1)
    (long-is : long ≡ length (slice_of a b c which)) where
  pub starts-past : long < from → 0 ≡ start_standing a b c stand k
  unfolding start_standing
  starts-past l = rw (← which-is, ← from_is, ← long-is, lt-leb from long l)

  pub starts-within : from ≤ long → from ≡ start_standing a b c stand k
  unfolding start_standing
  starts-within l = rw (← which-is, ← from_is, ← long-is, le-leb from long l)

-- ---- after file k was put somewhere
module _ (stand : List ℕ) (k which from to : ℕ) where
  pub placed-length : length (standing_with stand k which from to) ≡ length stand
  unfolding standing_with
  placed-length = simp length-set

  pub placed-fits : k < length stand / 3 → cond (ltb k (length stand / 3)) (standing_with stand k which from to) stand ≡ standing_with stand k which from to
  placed-fits l = rw (lt-ltb k (length stand / 3) l)

  -- after the first number, and after the second
  abbrev one : List ℕ
  one = set stand (3 * k) which

  abbrev two : List ℕ
  two = set one (3 * k + 1) from

  -- the numbers of any other file are as they were
  number-kept : (j i : ℕ) → (j ≡ k → ⊥) → i < 3 → number_of (standing_with stand k which from to) j i ≡ number_of stand j i
  unfolding number_of standing_with
  number-kept j i n l =
      get_or-set_other two (3 * k + 2) (3 * j + i) to 0 (λ e. n (omega arith))
      ∙ get_or-set_other one (3 * k + 1) (3 * j + i) from 0 (λ e. n (omega arith))
      ∙ get_or-set_other stand (3 * k) (3 * j + i) which 0 (λ e. n (omega arith))

  module _ (l : k < length stand / 3) where
    which-placed : number_of (standing_with stand k which from to) k 0 ≡ which
    unfolding number_of standing_with
    which-placed =
        get_or-set_other two (3 * k + 2) (3 * k + 0) to 0 (λ e. omega arith)
        ∙ get_or-set_other one (3 * k + 1) (3 * k + 0) from 0 (λ e. omega arith)
        ∙ rw (add-zero (3 * k)) (get_or-set_same stand (3 * k) which 0 (omega arith))

    from-placed : number_of (standing_with stand k which from to) k 1 ≡ from
    unfolding number_of standing_with
    from-placed =
        get_or-set_other two (3 * k + 2) (3 * k + 1) to 0 (λ e. omega arith)
        ∙ get_or-set_same one (3 * k + 1) from 0 (omega (arith, length-set stand (3 * k) which))

    to-placed : number_of (standing_with stand k which from to) k 2 ≡ to
    unfolding number_of standing_with
    to-placed = get_or-set_same two (3 * k + 2) to 0 (omega (arith, length-set stand (3 * k) which, length-set one (3 * k + 1) from))

    module _ (a b c : List ℕ) where
      -- it stands there, or nowhere
      pub placed-there : (which ≡ 0 → ⊥) → standing a b c (standing_with stand k which from to) k ≡ Given (part_of (slice_of a b c which) from to)
      placed-there n = rw (which-placed, from-placed, to-placed) at (stands-there a b c (standing_with stand k which from to) k (rw which-placed n))

      pub placed-nowhere : which ≡ 0 → standing a b c (standing_with stand k which from to) k ≡ Left
      placed-nowhere e = stands-nowhere a b c (standing_with stand k which from to) k (which-placed ∙ e)

  -- and every other file where it stood
  pub placed-other : (a b c : List ℕ) (j : ℕ) → (j ≡ k → ⊥) → standing a b c (standing_with stand k which from to) j ≡ standing a b c stand j
  unfolding standing is_there
  placed-other a b c j n =
      rw (number-kept j 0 n (omega arith), number-kept j 1 n (omega arith), number-kept j 2 n (omega arith))

  -- where it starts, and where every other does
  module _ (a b c : List ℕ) where
    pub start-placed : k < length stand / 3 → start_standing a b c (standing_with stand k which from to) k ≡ cond (leb from (length (slice_of a b c which))) from 0
    unfolding start_standing
    start-placed l = rw (which-placed l, from-placed l)

    pub start-kept : (j : ℕ) → (j ≡ k → ⊥) → start_standing a b c (standing_with stand k which from to) j ≡ start_standing a b c stand j
    unfolding start_standing
    start-kept j n = rw (number-kept j 0 n (omega arith), number-kept j 1 n (omega arith))
