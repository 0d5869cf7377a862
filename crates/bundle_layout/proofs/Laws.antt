-- What is known of a bundle that is written and of one that is accepted.
-- Assumes nothing.
use Prim.Native.Nat.{ℕ, zero, suc, ◌+◌, ◌*◌, ◌≤◌, ◌<◌}
use mathlib.Core.Path.{◌≡◌, refl, sym}
use mathlib.Core.Bool.{Bool, true, false, cond, ◌||◌}
use mathlib.Core.Logic.{⊎_elim}
use mathlib.Core.List.{List, ◌++◌}
use native.Mathlib.Nat.{eq-or-lt_of_le, le_of_suc-le-suc, add-zero, zero-add, add-suc, suc-add, add-sub_cancel_left}
use native.Mathlib.Omega.{arith}
use borrow.Author.Tests.{ltb-true, ltb-false, eqb-true, eqb-false, lt-ltb, le-ltb, eq-eqb}
use lib.ListN.{length, take, drop, length-append, length-drop}
use lib.Seq.{length-take-le}
use lib.Dec.{ltb, eqb}
use Rattle.json_bytes.proofs.Laws.{by-test, both_left, both_right}
use Rattle.parts.proofs.Laws.{part-is}
use Rattle.bundle_bytes.specs.Words.{word_at, word_of}
use Rattle.bundle_bytes.specs.Pieces.{joined, piece_start, changed}
use Rattle.parts.specs.Files.{File, Left, Given, is_present, bytes_of}
use Rattle.bundle_bytes.proofs.Laws.{word-length, joined_length, start_of-same, start-changed}
use Rattle.bundle_layout.specs.Bundle.{header_size, offset_at, length_at, is_omitted, end_of, stands_right, laid_out_from, laid_out, bundle_fault, part_at, file_at, lookup_fault, pieces_of, header_pair, header_of, bundle_of, bundle_length}
use Rattle.bundle_layout.specs.Change.{files_after, try_fault, make_fault}

-- ---- lengths
module _ (n : ℕ) (files : ℕ → File) where
  pub entry_length : (k : ℕ) → length (header_pair n files k) ≡ 8
  unfolding header_pair word_of
  entry_length k = go (is_present (files k))
    where
      go : (t : Bool) → length (cond t (word_of (header_size n + piece_start (pieces_of files) k) ++ word_of (length (bytes_of (files k)))) (word_of 0 ++ word_of 0)) ≡ 8
      go true = refl
      go false = refl

  pub entry-start : (k : ℕ) → piece_start (header_pair n files) k ≡ 8 * k
  unfolding piece_start
  entry-start zero = refl
  entry-start (suc k) = omega (arith, entry-start k, entry_length k)

  pub header-length : length (header_of n files) ≡ header_size n
  unfolding header_of header_size
  header-length =
      omega (arith, length-append (word_of n) (joined (header_pair n files) n), word-length n, joined_length (header_pair n files) n, entry-start n)

  pub bundle-length : length (bundle_of n files) ≡ bundle_length n files
  unfolding bundle_of bundle_length
  bundle-length =
      omega (arith, length-append (header_of n files) (joined (pieces_of files) n), header-length, joined_length (pieces_of files) n)

-- ---- an accepted bundle
none_found : (a b c : Bool) → ◌≡◌ {A = ℕ} (cond a 1 (cond b (cond c 0 3) 2)) 0 → (a ≡ false) × (b ≡ true) × (c ≡ true)
none_found true b c e = absurd (omega (arith, e))
none_found false false c e = absurd (omega (arith, e))
none_found false true false e = absurd (omega (arith, e))
none_found false true true e = (refl, refl, refl)

neither : (a b : Bool) → (a || b) ≡ false → (a ≡ false) × (b ≡ false)
neither true b e = (e, cc)
neither false b e = (refl, e)

first_then : (a b : Bool) → (elim a [ true ↦ b | false ↦ false ]) ≡ true → (a ≡ true) × (b ≡ true)
first_then true b e = (refl, e)
first_then false b e = (e, cc)

pub end-grows : (n : ℕ) (s : List ℕ) (i j : ℕ) → i ≤ j → end_of n s i ≤ end_of n s j
unfolding end_of
end-grows n s i zero l = let e : i ≡ 0 = omega arith in rw e (omega arith)
end-grows n s i (suc j) l = ⊎_elim (λ e. rw e (omega arith)) (λ h. omega (arith, end-grows n s i j (le_of_suc-le-suc h))) (eq-or-lt_of_le l)

-- a file that is omitted, and one that is not
module _ (s : List ℕ) (k : ℕ) where
  pub omitted-file : is_omitted s k ≡ true → file_at s k ≡ Left
  unfolding file_at
  omitted-file e = rw e

  pub present-file : is_omitted s k ≡ false → file_at s k ≡ Given (part_at s k)
  unfolding file_at
  present-file e = rw e

  pub omitted-offset : is_omitted s k ≡ true → offset_at s k ≡ 0
  unfolding is_omitted
  omitted-offset e = eqb-true (offset_at s k) 0 (both_left (eqb (offset_at s k) 0) (eqb (length_at s k) 0) e)

  pub omitted-length : is_omitted s k ≡ true → length_at s k ≡ 0
  unfolding is_omitted
  omitted-length e = eqb-true (length_at s k) 0 (both_right (eqb (offset_at s k) 0) (eqb (length_at s k) 0) e)

module _ (n : ℕ) (s : List ℕ) where
  -- each file from number k on, and the end, by the number j of those that are left
  laid-stands : (j k : ℕ) → laid_out_from n s j k ≡ true → (i : ℕ) → i < j → stands_right n s (k + i) ≡ true
  unfolding laid_out_from
  laid-stands zero k e i l = absurd (omega arith)
  laid-stands (suc j) k e zero l = rw add-zero (first_then (stands_right n s k) (laid_out_from n s j (suc k)) e).0
  laid-stands (suc j) k e (suc i) l =
      rw (add-suc, ← suc-add) (laid-stands j (suc k) (first_then (stands_right n s k) (laid_out_from n s j (suc k)) e).1 i (omega arith))

  laid-ends : (j k : ℕ) → laid_out_from n s j k ≡ true → end_of n s (k + j) ≡ length s
  unfolding laid_out_from
  laid-ends zero k e = rw add-zero (eqb-true (end_of n s k) (length s) e)
  laid-ends (suc j) k e = rw (add-suc, ← suc-add) (laid-ends j (suc k) (first_then (stands_right n s k) (laid_out_from n s j (suc k)) e).1)

  -- and the other way round
  pub laid_by : (j k : ℕ) → ((i : ℕ) → i < j → stands_right n s (k + i) ≡ true) → end_of n s (k + j) ≡ length s → laid_out_from n s j k ≡ true
  unfolding laid_out_from
  laid_by zero k f e = rw add-zero at (eq-eqb (end_of n s (k + zero)) (length s) e)
  laid_by (suc j) k f e =
      let here : stands_right n s k ≡ true = rw add-zero at (f 0 (omega arith)) in
      rw (here, laid_out_from) (laid_by j (suc k) (λ i l. rw (suc-add, ← add-suc) (f (suc i) (omega arith))) (rw (suc-add, ← add-suc) e))

module _ (n : ℕ) (s : List ℕ) (accepted : bundle_fault n s ≡ 0) where
  tests : ((ltb (length s) (header_size n) || ltb 1048576 (length s)) ≡ false) × (eqb (word_at s 0) n ≡ true) × (laid_out n s ≡ true)
  unfolding bundle_fault
  tests = none_found (ltb (length s) (header_size n) || ltb 1048576 (length s)) (eqb (word_at s 0) n) (laid_out n s) accepted

  sizes : (ltb (length s) (header_size n) ≡ false) × (ltb 1048576 (length s) ≡ false)
  sizes = neither (ltb (length s) (header_size n)) (ltb 1048576 (length s)) tests.0

  pub fault-size : (header_size n ≤ length s) × (length s ≤ 1048576)
  fault-size = (ltb-false (length s) (header_size n) sizes.0, ltb-false 1048576 (length s) sizes.1)

  pub fault-count : word_at s 0 ≡ n
  fault-count = eqb-true (word_at s 0) n tests.1

  pub fault-laid : laid_out n s ≡ true
  fault-laid = tests.2

  pub stands : (k : ℕ) → k < n → stands_right n s k ≡ true
  unfolding laid_out
  stands k l = rw zero-add at (laid-stands n s n 0 fault-laid k l)

  pub laid_end : end_of n s n ≡ length s
  unfolding laid_out
  laid_end = rw zero-add at (laid-ends n s n 0 fault-laid)

  -- where a file ends, and with it all before it, there the bundle goes on or ends
  pub end-within : (k : ℕ) → k < n → end_of n s k + length_at s k ≤ length s
  unfolding end_of
  end-within k l = omega (arith, end-grows n s (suc k) n l, laid_end)

  -- a file that is there, and the bytes of any
  pub present-offset : (k : ℕ) → k < n → is_omitted s k ≡ false → offset_at s k ≡ end_of n s k
  unfolding stands_right
  present-offset k l e = eqb-true (offset_at s k) (end_of n s k) (rw e at (stands k l))

  pub part-taken : (k : ℕ) → k < n → is_omitted s k ≡ false → part_at s k ≡ take (length_at s k) (drop (end_of n s k) s)
  unfolding part_at
  part-taken k l e =
      rw (present-offset k l e, part-is s (end_of n s k) (end_of n s k + length_at s k) (omega arith) (end-within k l), add-sub_cancel_left)

  pub bytes-taken : (k : ℕ) → k < n → bytes_of (file_at s k) ≡ take (length_at s k) (drop (end_of n s k) s)
  unfolding file_at bytes_of
  bytes-taken k l =
      by-test (λ f. bytes_of f ≡ take (length_at s k) (drop (end_of n s k) s)) (is_omitted s k) Left (Given (part_at s k))
      (λ e. rw (omitted-length s k e)) (λ e. part-taken k l e)

  pub part_length : (k : ℕ) → k < n → length (bytes_of (file_at s k)) ≡ length_at s k
  part_length k l =
      rw (bytes-taken k l) (length-take-le (length_at s k) (drop (end_of n s k) s) (omega (arith, length-drop (end_of n s k) s, end-within k l)))

  pub end-start : (k : ℕ) → k ≤ n → end_of n s k ≡ header_size n + piece_start (pieces_of (file_at s)) k
  unfolding end_of piece_start pieces_of
  end-start zero l = omega arith
  end-start (suc k) l = omega (arith, end-start k (omega arith), part_length k l)

  pub valid-length : bundle_length n (file_at s) ≡ length s
  unfolding bundle_length
  valid-length = omega (arith, end-start n (omega arith), laid_end)

-- ---- a change of file k
pub pieces-after : (s : List ℕ) (k : ℕ) (f : File) (i : ℕ) → pieces_of (files_after s k f) i ≡ changed (pieces_of (file_at s)) k (bytes_of f) i
unfolding pieces_of files_after changed
pieces-after s k f i = go (eqb i k)
  where
    go : (t : Bool) → bytes_of (cond t f (file_at s i)) ≡ cond t (bytes_of f) (bytes_of (file_at s i))
    go true = refl
    go false = refl

pub length-after : (n : ℕ) (s : List ℕ) → bundle_fault n s ≡ 0 → (k : ℕ) (f : File) → k < n → bundle_length n (files_after s k f) + length (bytes_of (file_at s k)) ≡ length s + length (bytes_of f)
unfolding bundle_length pieces_of
length-after n s accepted k f l =
    omega (arith, start_of-same (pieces_of (files_after s k f)) (changed (pieces_of (file_at s)) k (bytes_of f)) n (λ i h. pieces-after s k f i), start-changed (pieces_of (file_at s)) k (bytes_of f) n l, valid-length n s accepted)

-- ---- no refusal, and what it takes to have none
passed : (x a : ℕ) → cond (eqb x 0) a x ≡ 0 → (x ≡ 0) × (a ≡ 0)
passed x a e = go (eqb x 0) refl e
  where
    go : (t : Bool) → eqb x 0 ≡ t → cond t a x ≡ 0 → (x ≡ 0) × (a ≡ 0)
    go true p e = (eqb-true x 0 p, e)
    go false p e = absurd (eqb-false x 0 p e)

not-under : (a b c : ℕ) → cond (ltb a b) (suc c) 0 ≡ 0 → b ≤ a
not-under a b c e = by-test (λ r. r ≡ 0 → b ≤ a) (ltb a b) (suc c) 0 (λ q h. absurd (omega arith)) (λ q h. ltb-false a b q) e

is-under : (a b c : ℕ) → cond (ltb a b) 0 (suc c) ≡ 0 → a < b
is-under a b c e = by-test (λ r. r ≡ 0 → a < b) (ltb a b) 0 (suc c) (λ q h. ltb-true a b q) (λ q h. absurd (omega arith)) e

module _ (n : ℕ) (s : List ℕ) (k : ℕ) where
  pub lookup-none : lookup_fault n s k ≡ 0 → (bundle_fault n s ≡ 0) × (k < n)
  unfolding lookup_fault
  lookup-none e =
      let p = passed (bundle_fault n s) (cond (ltb k n) 0 4) e in
      (p.0, is-under k n 3 p.1)

  pub lookup-fine : bundle_fault n s ≡ 0 → k < n → lookup_fault n s k ≡ 0
  unfolding lookup_fault
  lookup-fine e l = rw (eq-eqb (bundle_fault n s) 0 e, lt-ltb k n l)

  module _ (f : File) where
    pub try-none : try_fault n s k f ≡ 0 → (bundle_fault n s ≡ 0) × (k < n) × (bundle_length n (files_after s k f) ≤ 1048576)
    unfolding try_fault
    try-none e =
        let p = passed (lookup_fault n s k) (cond (ltb 1048576 (bundle_length n (files_after s k f))) 6 0) e in
        ((lookup-none p.0).0, (lookup-none p.0).1, not-under 1048576 (bundle_length n (files_after s k f)) 5 p.1)

    pub try-fine : bundle_fault n s ≡ 0 → k < n → bundle_length n (files_after s k f) ≤ 1048576 → try_fault n s k f ≡ 0
    unfolding try_fault
    try-fine e l m = rw (eq-eqb (lookup_fault n s k) 0 (lookup-fine e l), le-ltb 1048576 (bundle_length n (files_after s k f)) m)

    pub make-none : (room : ℕ) → make_fault n s k f room ≡ 0 → (try_fault n s k f ≡ 0) × (bundle_length n (files_after s k f) ≤ room)
    unfolding make_fault
    make-none room e =
        let p = passed (try_fault n s k f) (cond (ltb room (bundle_length n (files_after s k f))) 5 0) e in
        (p.0, not-under room (bundle_length n (files_after s k f)) 4 p.1)

    -- with room enough, making a change is refused as trying it is
    pub try-make : (room : ℕ) → bundle_length n (files_after s k f) ≤ room → make_fault n s k f room ≡ try_fault n s k f
    unfolding make_fault
    try-make room l =
        by-test (λ r. r ≡ try_fault n s k f) (eqb (try_fault n s k f) 0) (cond (ltb room (bundle_length n (files_after s k f))) 5 0) (try_fault n s k f)
        (λ e. rw (le-ltb room (bundle_length n (files_after s k f)) l) (sym (eqb-true (try_fault n s k f) 0 e))) (λ e. refl)
