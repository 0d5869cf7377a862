-- A bundle that is written reads back as the files it was written from, and an accepted one is written again as it was.
-- Assumes nothing.
use Prim.Native.Nat.{ℕ, zero, suc, ◌+◌, ◌*◌, ◌^◌, ◌≤◌, ◌<◌}
use mathlib.Core.Path.{◌≡◌, refl, sym, ap, ◌∙◌}
use mathlib.Core.Bool.{Bool, true, false, cond, ◌||◌}
use mathlib.Core.Logic.{◌⊎◌, inl, inr, ⊎_elim}
use mathlib.Core.List.{List, [], ◌∷◌, ◌++◌, append_assoc}
use native.Mathlib.Nat.{zero-add, suc-add, add-sub_cancel_left}
use native.Mathlib.Omega.{arith}
use borrow.Author.Tests.{eqb-true, le-ltb, eq-eqb, ne_eqb}
use lib.ListN.{length, take, drop, length-append, length-drop}
use lib.Seq.{take-nil, take_all, take_at, drop_at, take-take, take-add, drop-drop}
use lib.Dec.{eqb}
use Rattle.json_bytes.proofs.Laws.{by-test}
use Rattle.parts.proofs.Laws.{part-is}
use Rattle.bundle_bytes.specs.Words.{word_at, word_of}
use Rattle.bundle_bytes.specs.Pieces.{joined, piece_start, changed}
use Rattle.parts.specs.Files.{File, Left, Given, is_present, bytes_of}
use Rattle.bundle_bytes.proofs.Laws.{Bytes, word-length, word-in-part, word-again, joined_same, start_of-same, start-end, joined-part-behind, joined-part-within}
use Rattle.bundle_layout.specs.Bundle.{header_size, offset_at, length_at, is_omitted, end_of, stands_right, laid_out, bundle_fault, part_at, file_at, pieces_of, header_pair, header_of, bundle_of, bundle_length}
use Rattle.bundle_layout.specs.Change.{files_after, try_fault, make_fault, output_of, output}
use Rattle.bundle_layout.specs.Put.{empty_bundle, put_all, is_listed}
use Rattle.bundle_layout.proofs.Laws.{laid_by, omitted-file, present-file, entry_length, entry-start, header-length, bundle-length, fault-size, fault-count, omitted-offset, omitted-length, present-offset, bytes-taken, part_length, end-start, valid-length, try-none, try-fine, make-none}

-- ---- the same files are written the same
module _ (n : ℕ) (files others : ℕ → File) (same : (i : ℕ) → i < n → files i ≡ others i) where
  pieces-same : (i : ℕ) → i < n → pieces_of files i ≡ pieces_of others i
  unfolding pieces_of
  pieces-same i l = ap bytes_of (same i l)

  entry-same : (i : ℕ) → i < n → header_pair n files i ≡ header_pair n others i
  unfolding header_pair
  entry-same i l = rw (same i l, start_of-same (pieces_of files) (pieces_of others) i (λ j h. pieces-same j (omega arith)))

  pub bundle-same : bundle_of n files ≡ bundle_of n others
  unfolding bundle_of header_of
  bundle-same = rw (joined_same (header_pair n files) (header_pair n others) n entry-same, joined_same (pieces_of files) (pieces_of others) n pieces-same)

  pub length-same : bundle_length n files ≡ bundle_length n others
  length-same = sym (bundle-length n files) ∙ ap length bundle-same ∙ bundle-length n others

-- ---- files written and read back
-- two halves of a part
module _ (s : List ℕ) (a : ℕ) (u v : List ℕ) (m k : ℕ) (lu : length u ≡ m) (e : take (m + k) (drop a s) ≡ u ++ v) where
  first-half : take m (drop a s) ≡ u
  first-half = sym (take-take m (m + k) (drop a s) (omega arith)) ∙ ap (take m) e ∙ take_at u v m lu

  second-half : take k (drop (a + m) s) ≡ v
  second-half = sym (ap (take k) (drop-drop m a s)) ∙ sym (drop-take m k (drop a s)) ∙ ap (drop m) e ∙ drop_at u v m lu
    where
      drop-take : (m n : ℕ) (l : List ℕ) → drop m (take (m + n) l) ≡ take n (drop m l)
      drop-take zero n l = rw zero-add
      drop-take (suc m) n [] = rw (take-nil (suc m + n), take-nil n)
      drop-take (suc m) n (x ∷ l) = rw suc-add (drop-take m n l)

-- where the bytes of a file stand
pub bytes_back : (n : ℕ) (files : ℕ → File) (i : ℕ) → i < n → take (length (bytes_of (files i))) (drop (header_size n + piece_start (pieces_of files) i) (bundle_of n files)) ≡ bytes_of (files i)
unfolding bundle_of pieces_of
bytes_back n files i l = rw (header-length n files) at (joined-part-behind (pieces_of files) (header_of n files) i n l)

module _ (n : ℕ) (files : ℕ → File) (fits : bundle_length n files < 2 ^ 32) where
  -- the offset that is written of a file, and its length
  offset_of : ℕ → ℕ
  offset_of i = cond (is_present (files i)) (header_size n + piece_start (pieces_of files) i) 0

  entry-words : (i : ℕ) → header_pair n files i ≡ word_of (offset_of i) ++ word_of (length (bytes_of (files i)))
  unfolding header_pair offset_of is_present bytes_of
  entry-words i = go (files i)
    where
      go : (f : File) → cond (is_present f) (word_of (header_size n + piece_start (pieces_of files) i) ++ word_of (length (bytes_of f))) (word_of 0 ++ word_of 0) ≡ word_of (cond (is_present f) (header_size n + piece_start (pieces_of files) i) 0) ++ word_of (length (bytes_of f))
      go Left = refl
      go (Given b) = refl

  count-back : word_at (bundle_of n files) 0 ≡ n
  unfolding bundle_of header_of bundle_length header_size
  count-back =
      word-in-part (bundle_of n files) 0 n (omega arith)
      (rw append_assoc (take_at (word_of n) (joined (header_pair n files) n ++ joined (pieces_of files) n) 4 (word-length n)))

  entry-back : (i : ℕ) → i < n → take (4 + 4) (drop (4 + 8 * i) (bundle_of n files)) ≡ word_of (offset_of i) ++ word_of (length (bytes_of (files i)))
  unfolding bundle_of header_of
  entry-back i l =
      rw (entry_length n files i, word-length n, entry-start n files i, entry-words i) at (joined-part-within (header_pair n files) (word_of n) (joined (pieces_of files) n) i n l)

  -- the lengths, and with them the offsets, are small
  length-small : (i : ℕ) → i < n → header_size n + piece_start (pieces_of files) i + length (bytes_of (files i)) ≤ bundle_length n files
  unfolding bundle_length pieces_of
  length-small i l = omega (arith, start-end (pieces_of files) i n l)

  offset-small : (i : ℕ) → i < n → offset_of i < 2 ^ 32
  unfolding offset_of
  offset-small i l =
      by-test (λ x. x < 2 ^ 32) (is_present (files i)) (header_size n + piece_start (pieces_of files) i) 0
      (λ e. omega (arith, length-small i l)) (λ e. omega (arith, length-small i l))

  offset-back : (i : ℕ) → i < n → offset_at (bundle_of n files) i ≡ offset_of i
  unfolding offset_at
  offset-back i l =
      word-in-part (bundle_of n files) (4 + 8 * i) (offset_of i) (offset-small i l)
      (first-half (bundle_of n files) (4 + 8 * i) (word_of (offset_of i)) (word_of (length (bytes_of (files i)))) 4 4 (word-length (offset_of i)) (entry-back i l))

  pub length_back : (i : ℕ) → i < n → length_at (bundle_of n files) i ≡ length (bytes_of (files i))
  unfolding length_at
  length_back i l =
      word-in-part (bundle_of n files) (8 + 8 * i) (length (bytes_of (files i))) (omega (arith, length-small i l))
      (rw ahead at (second-half (bundle_of n files) (4 + 8 * i) (word_of (offset_of i)) (word_of (length (bytes_of (files i)))) 4 4 (word-length (offset_of i)) (entry-back i l)))
    where
      ahead : 4 + 8 * i + 4 ≡ 8 + 8 * i
      ahead = omega arith

  -- a file that is left out reads as omitted, and one that is there as its bytes
  module _ (i : ℕ) (l : i < n) where
    left_back : files i ≡ Left → is_omitted (bundle_of n files) i ≡ true
    unfolding is_omitted offset_of is_present bytes_of
    left_back e = rw (offset-back i l, length_back i l, e)

    given-place : (b : List ℕ) → files i ≡ Given b → offset_at (bundle_of n files) i ≡ header_size n + piece_start (pieces_of files) i
    unfolding offset_of is_present
    given-place b e = rw (offset-back i l, e)

    given_back : (b : List ℕ) → files i ≡ Given b → is_omitted (bundle_of n files) i ≡ false
    unfolding is_omitted header_size
    given_back b e = rw (ne_eqb (offset_at (bundle_of n files) i) 0 (λ z. omega (arith, z, given-place b e)))

    part-back : (b : List ℕ) → files i ≡ Given b → part_at (bundle_of n files) i ≡ b
    unfolding part_at bytes_of
    part-back b e =
        rw (given-place b e, length_back i l, part-is (bundle_of n files) (header_size n + piece_start (pieces_of files) i) (header_size n + piece_start (pieces_of files) i + length (bytes_of (files i))) (omega arith) (omega (arith, length-small i l, bundle-length n files)), add-sub_cancel_left, bytes_back n files i l, e)

    pub read_back : file_at (bundle_of n files) i ≡ files i
    unfolding file_at
    read_back = go (files i) refl
      where
        go : (f : File) → files i ≡ f → cond (is_omitted (bundle_of n files) i) Left (Given (part_at (bundle_of n files) i)) ≡ f
        go Left e = rw (left_back e)
        go (Given b) e = rw (given_back b e, part-back b e)

  -- the bundle is laid out
  end_back : (k : ℕ) → k ≤ n → end_of n (bundle_of n files) k ≡ header_size n + piece_start (pieces_of files) k
  unfolding end_of piece_start pieces_of
  end_back zero l = omega arith
  end_back (suc k) l = omega (arith, end_back k (omega arith), length_back k l)

  stands-back : (i : ℕ) → i < n → stands_right n (bundle_of n files) i ≡ true
  unfolding stands_right
  stands-back i l = go (files i) refl
    where
      go : (f : File) → files i ≡ f → (is_omitted (bundle_of n files) i || eqb (offset_at (bundle_of n files) i) (end_of n (bundle_of n files) i)) ≡ true
      go Left e = rw (left_back i l e)
      go (Given b) e = rw (given_back i l b e) (eq-eqb (offset_at (bundle_of n files) i) (end_of n (bundle_of n files) i) (given-place i l b e ∙ sym (end_back i (omega arith))))

  laid-back : laid_out n (bundle_of n files) ≡ true
  unfolding laid_out bundle_length
  laid-back =
      laid_by n (bundle_of n files) n 0 (λ i l. rw zero-add (stands-back i l))
      (rw zero-add (end_back n (omega arith) ∙ sym (bundle-length n files)))

-- and accepted, if it is not too long
pub bundle-accepted : (n : ℕ) (files : ℕ → File) → bundle_length n files ≤ 1048576 → bundle_fault n (bundle_of n files) ≡ 0
unfolding bundle_fault bundle_length
bundle-accepted n files l =
    rw (bundle-length n files, le-ltb (bundle_length n files) (header_size n) (omega arith), le-ltb 1048576 (bundle_length n files) l, eq-eqb (word_at (bundle_of n files) 0) n (count-back n files (omega arith)), laid-back n files (omega arith))

-- ---- an accepted bundle is written again as it was
-- pieces that stand in a list one behind the other, joined
joined-taken : (g : ℕ → List ℕ) (s : List ℕ) (a n : ℕ) → ((i : ℕ) → i < n → take (length (g i)) (drop (a + piece_start g i) s) ≡ g i) → joined g n ≡ take (piece_start g n) (drop a s)
unfolding joined piece_start
joined-taken g s a zero f = refl
joined-taken g s a (suc n) f =
    rw (take-add (piece_start g n) (length (g n)) (drop a s), ← joined-taken g s a n (λ i l. f i (omega arith)), drop-drop (piece_start g n) a s, f n (omega arith))

module _ (n : ℕ) (s : List ℕ) (accepted : bundle_fault n s ≡ 0) where
  pieces-again : joined (pieces_of (file_at s)) n ≡ take (piece_start (pieces_of (file_at s)) n) (drop (header_size n) s)
  unfolding pieces_of
  pieces-again =
      joined-taken (pieces_of (file_at s)) s (header_size n) n
      (λ i l. rw (← end-start n s accepted i (omega arith), part_length n s accepted i l) (sym (bytes-taken n s accepted i l)))

  module _ (bs : Bytes s) where
    entry-again : (i : ℕ) → i < n → take 8 (drop (4 + 8 * i) s) ≡ header_pair n (file_at s) i
    unfolding header_pair header_size offset_at length_at is_present
    entry-again i l =
        take-add 4 4 (drop (4 + 8 * i) s) ∙ rw (drop-drop 4 (4 + 8 * i) s, ahead, word-again s (4 + 8 * i) bs (omega (arith, (fault-size n s accepted).0)), word-again s (8 + 8 * i) bs (omega (arith, (fault-size n s accepted).0))) (go (is_omitted s i) refl)
      where
        ahead : 4 + 8 * i + 4 ≡ 8 + 8 * i
        ahead = omega arith

        go : (t : Bool) → is_omitted s i ≡ t → word_of (offset_at s i) ++ word_of (length_at s i) ≡ header_pair n (file_at s) i
        go true e = rw (omitted-file s i e, omitted-offset s i e, omitted-length s i e)
        go false e = rw (part_length n s accepted i l, present-file s i e, ← end-start n s accepted i (omega arith), present-offset n s accepted i l e)

    header-again : header_of n (file_at s) ≡ take (header_size n) s
    unfolding header_of header_size
    header-again =
        rw (take-add 4 (8 * n) s, word-again s 0 bs (omega (arith, (fault-size n s accepted).0)), fault-count n s accepted, ← entry-start n (file_at s) n)
        (ap (λ r. word_of n ++ r) (joined-taken (header_pair n (file_at s)) s 4 n (λ i l. rw (entry_length n (file_at s) i, entry-start n (file_at s) i) (entry-again i l))))

    pub written-again : bundle_of n (file_at s) ≡ s
    unfolding bundle_of bundle_length
    written-again =
        rw (header-again, pieces-again, ← take-add (header_size n) (piece_start (pieces_of (file_at s)) n) s) (take_all (bundle_length n (file_at s)) s (omega (arith, valid-length n s accepted)))

-- so an accepted bundle is one of its files alone
pub same-files : (n : ℕ) (s t : List ℕ) → bundle_fault n s ≡ 0 → bundle_fault n t ≡ 0 → Bytes s → Bytes t → ((i : ℕ) → i < n → file_at s i ≡ file_at t i) → s ≡ t
same-files n s t e f bs bt same = sym (written-again n s e bs) ∙ bundle-same n (file_at s) (file_at t) same ∙ written-again n t f bt

-- ---- an accepted change
module _ (n : ℕ) (s : List ℕ) (k : ℕ) (f : File) where
  pub after-change : try_fault n s k f ≡ 0 → (bundle_fault n (bundle_of n (files_after s k f)) ≡ 0) × ((i : ℕ) → i < n → file_at (bundle_of n (files_after s k f)) i ≡ files_after s k f i)
  after-change e = (bundle-accepted n (files_after s k f) (try-none n s k f e).2, λ i l. read_back n (files_after s k f) (omega (arith, (try-none n s k f e).2)) i l)

  -- "Withdrawing an omitted file is accepted and changes no file.", as any change that leaves the file as it is
  pub unchanged-file : file_at s k ≡ f → (i : ℕ) → files_after s k f i ≡ file_at s i
  unfolding files_after changed
  unchanged-file e i = by-test (λ r. r ≡ file_at s i) (eqb i k) f (file_at s i) (λ t. sym e ∙ ap (file_at s) (sym (eqb-true i k t))) (λ t. refl)

  pub unchanged-accepted : bundle_fault n s ≡ 0 → k < n → file_at s k ≡ f → try_fault n s k f ≡ 0
  unchanged-accepted a l e =
      try-fine n s k f a l (rw (length-same n (files_after s k f) (file_at s) (λ i h. unchanged-file e i), valid-length n s a) (fault-size n s a).1)

  pub unchanged-bundle : bundle_fault n s ≡ 0 → Bytes s → file_at s k ≡ f → bundle_of n (files_after s k f) ≡ s
  unchanged-bundle a bs e = bundle-same n (files_after s k f) (file_at s) (λ i h. unchanged-file e i) ∙ written-again n s a bs

  module _ (out : List ℕ) where
    pub output-made : make_fault n s k f (length out) ≡ 0 → output n s k f out ≡ bundle_of n (files_after s k f) ++ drop (bundle_length n (files_after s k f)) out
    unfolding output output_of
    output-made e = rw (eq-eqb (make_fault n s k f (length out)) 0 e)

    pub output-left : (make_fault n s k f (length out) ≡ 0 → ⊥) → output n s k f out ≡ out
    unfolding output
    output-left e = rw (ne_eqb (make_fault n s k f (length out)) 0 e)

    pub output-read : make_fault n s k f (length out) ≡ 0 → take (bundle_length n (files_after s k f)) (output n s k f out) ≡ bundle_of n (files_after s k f)
    output-read e =
        rw (output-made e) (take_at (bundle_of n (files_after s k f)) (drop (bundle_length n (files_after s k f)) out) (bundle_length n (files_after s k f)) (bundle-length n (files_after s k f)))

    pub output-rest : make_fault n s k f (length out) ≡ 0 → drop (bundle_length n (files_after s k f)) (output n s k f out) ≡ drop (bundle_length n (files_after s k f)) out
    output-rest e =
        rw (output-made e) (drop_at (bundle_of n (files_after s k f)) (drop (bundle_length n (files_after s k f)) out) (bundle_length n (files_after s k f)) (bundle-length n (files_after s k f)))

    -- it is as long as it was
    pub output-length : length (output n s k f out) ≡ length out
    unfolding output output_of
    output-length =
        by-test (λ r. length r ≡ length out) (eqb (make_fault n s k f (length out)) 0) (output_of n (files_after s k f) out) out
        (λ e. omega (arith, length-append (bundle_of n (files_after s k f)) (drop (bundle_length n (files_after s k f)) out), bundle-length n (files_after s k f), length-drop (bundle_length n (files_after s k f)) out, (make-none n s k f (length out) (eqb-true (make_fault n s k f (length out)) 0 e)).1)) (λ e. refl)

-- ---- files put one at a time
starts-under : (g h : ℕ → List ℕ) (n : ℕ) → ((i : ℕ) → i < n → length (g i) ≤ length (h i)) → piece_start g n ≤ piece_start h n
unfolding piece_start
starts-under g h zero f = omega arith
starts-under g h (suc n) f = omega (arith, starts-under g h n (λ i l. f i (omega arith)), f n (omega arith))

-- the files of these numbers given, all others as they were
put_files : (ℕ → File) → List ℕ → (ℕ → File) → ℕ → File
put_files files order g i = cond (is_listed i order) (files i) (g i)

module _ (n : ℕ) (files : ℕ → File) (small : bundle_length n files ≤ 1048576) where
  -- some of the files, all others left out
  abbrev Some : (ℕ → File) → Type 0
  Some g = (i : ℕ) → i < n → (g i ≡ files i) ⊎ (g i ≡ Left)

  some-small : (g : ℕ → File) → Some g → bundle_length n g ≤ 1048576
  unfolding bundle_length pieces_of bytes_of
  some-small g p =
      omega (arith, starts-under (pieces_of g) (pieces_of files) n (λ i l. ⊎_elim (λ e. rw e (omega arith)) (λ e. rw e (omega arith)) (p i l)))

  some-changed : (g : ℕ → File) → Some g → (k : ℕ) → Some (changed g k (files k))
  unfolding changed
  some-changed g p k i l =
      by-test (λ f. (f ≡ files i) ⊎ (f ≡ Left)) (eqb i k) (files k) (g i) (λ e. inl (ap files (sym (eqb-true i k e)))) (λ e. p i l)

  some-put : (order : List ℕ) (g : ℕ → File) → Some g → Some (put_files files order g)
  unfolding put_files
  some-put order g p i l = by-test (λ f. (f ≡ files i) ⊎ (f ≡ Left)) (is_listed i order) (files i) (g i) (λ e. inl refl) (λ e. p i l)

  -- one of them put
  put_step : (g : ℕ → File) → Some g → (k : ℕ) → (i : ℕ) → i < n → files_after (bundle_of n g) k (files k) i ≡ changed g k (files k) i
  unfolding files_after changed
  put_step g p k i l = rw (read_back n g (omega (arith, some-small g p)) i l)

  put-files : (order : List ℕ) (g : ℕ → File) → Some g → put_all n files order (bundle_of n g) ≡ bundle_of n (put_files files order g)
  unfolding put_all put_files is_listed changed
  put-files [] g p = refl
  put-files (k ∷ order) g p =
      ap (put_all n files order) (bundle-same n (files_after (bundle_of n g) k (files k)) (changed g k (files k)) (put_step g p k)) ∙ put-files order (changed g k (files k)) (some-changed g p k) ∙ bundle-same n (put_files files order (changed g k (files k))) (put_files files (k ∷ order) g) (λ i l. go i (eqb i k) refl (is_listed i order))
    where
      go : (i : ℕ) (t : Bool) → eqb i k ≡ t → (u : Bool) → cond u (files i) (cond t (files k) (g i)) ≡ cond (t || u) (files i) (g i)
      go i true e true = refl
      go i true e false = ap files (sym (eqb-true i k e))
      go i false e u = refl

  -- the next one is accepted
  next-accepted : (g : ℕ → File) → Some g → (k : ℕ) → k < n → try_fault n (bundle_of n g) k (files k) ≡ 0
  next-accepted g p k l =
      try-fine n (bundle_of n g) k (files k) (bundle-accepted n g (some-small g p)) l
      (rw (length-same n (files_after (bundle_of n g) k (files k)) (changed g k (files k)) (put_step g p k)) (some-small (changed g k (files k)) (some-changed g p k)))

  none-given : Some (λ i. Left)
  none-given i l = inr refl

  -- whatever was put before
  pub put-accepted : (done : List ℕ) (k : ℕ) → k < n → try_fault n (put_all n files done (empty_bundle n)) k (files k) ≡ 0
  unfolding empty_bundle
  put-accepted done k l =
      rw (put-files done (λ i. Left) none-given) (next-accepted (put_files files done (λ i. Left)) (some-put done (λ i. Left) none-given) k l)

  -- with all that are present put, it is their bundle
  pub put_whole : (order : List ℕ) → ((k : ℕ) → k < n → is_present (files k) ≡ true → is_listed k order ≡ true) → put_all n files order (empty_bundle n) ≡ bundle_of n files
  unfolding empty_bundle put_files is_present
  put_whole order all =
      put-files order (λ i. Left) none-given ∙ bundle-same n (put_files files order (λ i. Left)) files (λ i l. go i (files i) (is_listed i order) (all i l))
    where
      go : (i : ℕ) (f : File) (t : Bool) → (is_present f ≡ true → t ≡ true) → cond t f Left ≡ f
      go i f true h = refl
      go i Left false h = refl
      go i (Given b) false h = let e : false ≡ true = h refl in cc

-- "Putting a bundle's present files one at a time, in any order, into the bundle with none gives the same bytes again."
module _ (n : ℕ) (s : List ℕ) (accepted : bundle_fault n s ≡ 0) where
  pub one-at-a-time : Bytes s → (order : List ℕ) → ((k : ℕ) → k < n → is_present (file_at s k) ≡ true → is_listed k order ≡ true) → put_all n (file_at s) order (empty_bundle n) ≡ s
  one-at-a-time bs order all = put_whole n (file_at s) (omega (arith, valid-length n s accepted, (fault-size n s accepted).1)) order all ∙ written-again n s accepted bs

  -- each step is an accepted change
  pub step-accepted : (done : List ℕ) (k : ℕ) → k < n → try_fault n (put_all n (file_at s) done (empty_bundle n)) k (file_at s k) ≡ 0
  step-accepted = put-accepted n (file_at s) (omega (arith, valid-length n s accepted, (fault-size n s accepted).1))

-- of the bundle that the steps before it gave
pub put_next : (n : ℕ) (files : ℕ → File) (done : List ℕ) (k : ℕ) (rest s : List ℕ) → put_all n files (done ++ k ∷ rest) s ≡ put_all n files rest (bundle_of n (files_after (put_all n files done s) k (files k)))
unfolding put_all
put_next n files [] k rest s = refl
put_next n files (j ∷ done) k rest s = put_next n files done k rest (bundle_of n (files_after s j (files j)))
