-- What the tests and the turns of the code say of a bundle, by the definitions of its layout.
-- Assumes nothing.
use Prim.Native.Nat.{ℕ, zero, suc, ◌+◌, ◌*◌, ◌/◌, ◌-◌, ◌^◌, ◌≤◌, ◌<◌}
use mathlib.Core.Path.{◌≡◌, refl, sym, ap, ◌∙◌}
use mathlib.Core.Bool.{Bool, true, false, cond, not, ◌||◌}
use mathlib.Core.List.{List, [], ◌++◌, append_assoc, append-nil}
use native.Mathlib.Nat.{add-zero}
use native.Mathlib.Numerals.{add-one}
use native.Mathlib.Omega.{arith}
use borrow.Author.Tests.{eq-eqb, le-ltb}
use lib.ListN.{length, take, drop, length-append, take-append-drop}
use lib.Seq.{length-take-le, take_at, drop-append-add, drop-drop}
use lib.Dec.{eqb}
use Rattle.json_bytes.proofs.Laws.{by-test}
use Rattle.parts.specs.Part.{part_of}
use Rattle.parts.proofs.Laws.{part-is}
use Rattle.bundle_bytes.specs.Words.{word_at, word_of}
use Rattle.parts.specs.Files.{File, Left, Given, is_present, bytes_of, new_file}
use Rattle.bundle_bytes.specs.Pieces.{joined, piece_start, written}
use Rattle.bundle_bytes.proofs.Laws.{Bytes, word-past, word_small, word-length, written_back, written_behind, joined-next, start-next, joined_length, start-end}
use Rattle.bundle_layout.specs.Bundle.{header_size, offset_at, length_at, is_omitted, end_of, stands_right, laid_out_from, bundle_fault, part_at, file_at, pieces_of, header_pair, header_of, bundle_of, bundle_length}
use Rattle.bundle_layout.specs.Change.{files_after, try_fault, make_fault, output, output_of}
use Rattle.bundle_layout.proofs.Laws.{omitted-offset, omitted-length, entry-start, header-length, length-after}
use Rattle.bundle.specs.Answers.{change_of, tried_bundle, made_bundle}
use Rattle.bundle.specs.declared.Made.{Made}

-- ---- The numbers of the header
pub number_past : (s : List ℕ) (at k : ℕ) → length s / 8 < k → 0 ≡ word_at s (at + 8 * k)
number_past s at k l = word-past s (at + 8 * k) (omega arith)

module _ (s : List ℕ) (k : ℕ) where
  pub offset-small : Bytes s → offset_at s k < 2 ^ 32
  unfolding offset_at
  offset-small b = word_small s (4 + 8 * k) b

  pub length-small : Bytes s → length_at s k < 2 ^ 32
  unfolding length_at
  length-small b = word_small s (8 + 8 * k) b

-- ---- The layout, file by file
module _ (n : ℕ) (s : List ℕ) where
  pub end-next : (k : ℕ) → end_of n s (k + 1) ≡ end_of n s k + length_at s k
  unfolding end_of
  end-next k = rw (add-one k)

  -- few files of 32-bit lengths end at a place that a machine word holds
  pub end-small : Bytes s → (k : ℕ) → end_of n s k ≤ 4 + 8 * n + 4294967296 * k
  unfolding end_of header_size
  end-small b zero = omega arith
  end-small b (suc k) = omega (arith, end-small b k, length-small s k b)

  module _ (k end : ℕ) (l : k < n) (q : end ≡ end_of n s k) where
    left_one : n - k ≡ suc (n - (k + 1))
    left_one = omega arith

    standing : (b : Bool) → (is_omitted s k || eqb (offset_at s k) end) ≡ b → stands_right n s k ≡ b
    unfolding stands_right
    standing b e = rw (← q) e

    pub laid-right : (is_omitted s k || eqb (offset_at s k) end) ≡ true → laid_out_from n s (n - k) k ≡ laid_out_from n s (n - (k + 1)) (k + 1)
    unfolding laid_out_from
    laid-right e = rw (left_one, standing true e, laid_out_from, add-one k)

    pub laid-wrong : (is_omitted s k || eqb (offset_at s k) end) ≡ false → laid_out_from n s (n - k) k ≡ false
    unfolding laid_out_from
    laid-wrong e = rw (left_one, standing false e, laid_out_from)

  pub laid-all : (k end : ℕ) → k ≡ n → end ≡ end_of n s k → laid_out_from n s (n - k) k ≡ eqb end (length s)
  unfolding laid_out_from
  laid-all k end e q = rw (none, q)
    where
      none : n - k ≡ 0
      none = omega arith

-- ---- The files
-- a file's numbers give its part, also one that is omitted
pub part-read : (s : List ℕ) (k : ℕ) {from size : ℕ} → from ≡ offset_at s k → size ≡ length_at s k → part_of s from (from + size) ≡ bytes_of (file_at s k)
unfolding file_at bytes_of part_at
part-read s k e q =
    rw (e, q) (by-test (λ f. part_at s k ≡ bytes_of f) (is_omitted s k) Left (Given (part_at s k))
    (λ d. rw (omitted-offset s k d, omitted-length s k d) (part-is s 0 0 (omega arith) (omega arith))) (λ d. refl))

pub shown-present : (s : List ℕ) (i : ℕ) → not (is_omitted s i) ≡ is_present (file_at s i)
unfolding file_at is_present
shown-present s i = go (is_omitted s i)
  where
    go : (t : Bool) → not t ≡ is_present (cond t Left (Given (part_at s i)))
    go true = refl
    go false = refl

-- ---- The length after a change
module _ (n : ℕ) (s : List ℕ) (accepted : bundle_fault n s ≡ 0) (k : ℕ) (l : k < n) {p : List ℕ} (q : p ≡ bytes_of (file_at s k)) where
  pub part-within : length p ≤ length s
  unfolding bytes_of
  part-within = rw q (omega (arith, length-after n s accepted k Left l))

  pub length-new : (present : Bool) (new : List ℕ) → present ≡ true → length s - length p + length new ≡ bundle_length n (files_after s k (new_file present new))
  unfolding new_file bytes_of
  length-new present new e = rw (e, q) (omega (arith, length-after n s accepted k Left l, length-after n s accepted k (Given new) l))

  pub length_without : (present : Bool) (new : List ℕ) → present ≡ false → length s - length p ≡ bundle_length n (files_after s k (new_file present new))
  unfolding new_file bytes_of
  length_without present new e = rw (e, q) (omega (arith, length-after n s accepted k Left l))

-- ---- What is written
-- two numbers, one behind the other
pub entry-written : (d : List ℕ) (at to x y v : ℕ) {e f : List ℕ} → x ≡ v → e ≡ written d at (word_of x) → f ≡ written e to (word_of y) → f ≡ written (written d at (word_of v)) to (word_of y)
entry-written d at to x y v p q r = r ∙ ap (λ l. written l to (word_of y)) (q ∙ ap (λ w. written d at (word_of w)) p)

-- behind a front p that is written already, up to a place
behind : (p d v : List ℕ) (at to : ℕ) → length p ≡ at → at + length v ≡ to → to ≤ length d → written (p ++ drop at d) at v ≡ (p ++ v) ++ drop to d
behind p d v at to e q l = rw (← q, ← e) (written_behind p d v (omega arith) ∙ ap (λ j. (p ++ v) ++ drop j d) (length-append p v))

regrouped : (a b c d : List ℕ) → a ++ b ++ c ++ d ≡ a ++ (b ++ (c ++ d))
regrouped a b c d = simp append_assoc

two-behind : (p d : List ℕ) (at mid to a b : ℕ) → length p ≡ at → at + 4 ≡ mid → mid + 4 ≡ to → to ≤ length d → written (written (p ++ drop at d) at (word_of a)) mid (word_of b) ≡ p ++ word_of a ++ word_of b ++ drop to d
two-behind p d at mid to a b e q r l =
    ap (λ x. written x mid (word_of b)) (behind p d (word_of a) at mid e (omega (arith, word-length a)) (omega arith)) ∙ behind (p ++ word_of a) d (word_of b) mid to (omega (arith, length-append p (word_of a), word-length a)) (omega (arith, word-length b)) l

module _ (n : ℕ) (files : ℕ → File) where
  -- room for the bundle is room for its header
  pub header-fits : (room : ℕ) → bundle_length n files ≤ room → 4 + 8 * n ≤ room
  unfolding bundle_length header_size
  header-fits room h = omega arith

  -- and for each of its files
  pub file-fits : (room i : ℕ) {end : ℕ} {piece : List ℕ} → bundle_length n files ≤ room → i < n → end ≡ header_size n + piece_start (pieces_of files) i → piece ≡ bytes_of (files i) → end + length piece ≤ room
  unfolding bundle_length pieces_of
  file-fits room i h l e q = rw (e, q) (omega (arith, start-end (pieces_of files) i n l))

  -- where the next file starts
  pub end-begins : 4 + 8 * n ≡ header_size n + piece_start (pieces_of files) 0
  unfolding header_size piece_start
  end-begins = omega arith

  pub end-turn : (i : ℕ) {end : ℕ} {piece : List ℕ} → end ≡ header_size n + piece_start (pieces_of files) i → piece ≡ bytes_of (files i) → end + length piece ≡ header_size n + piece_start (pieces_of files) (i + 1)
  unfolding pieces_of
  end-turn i e q = rw (e, q) (omega (arith, start-next (pieces_of files) i))

  entry-shown : (i : ℕ) → header_pair n files i ≡ word_of (cond (is_present (files i)) (header_size n + piece_start (pieces_of files) i) 0) ++ word_of (length (bytes_of (files i)))
  unfolding header_pair is_present bytes_of
  entry-shown i = go (files i)
    where
      go : (f : File) → cond (is_present f) (word_of (header_size n + piece_start (pieces_of files) i) ++ word_of (length (bytes_of f))) (word_of 0 ++ word_of 0) ≡ word_of (cond (is_present f) (header_size n + piece_start (pieces_of files) i) 0) ++ word_of (length (bytes_of f))
      go Left = refl
      go (Given bytes) = refl

  -- the count and the entries of the first i files
  abbrev pub fronts : ℕ → List ℕ
  fronts i = word_of n ++ joined (header_pair n files) i

  front_length : (i : ℕ) → length (fronts i) ≡ 4 + 8 * i
  front_length i = omega (arith, length-append (word_of n) (joined (header_pair n files) i), word-length n, joined_length (header_pair n files) i, entry-start n files i)

  module _ (d : List ℕ) where
    -- at first the count stands there
    pub header-begins : {e : List ℕ} → 4 ≤ length d → e ≡ written d 0 (word_of n) → e ≡ fronts 0 ++ drop 4 e
    unfolding joined word_of
    header-begins l q = rw (q ∙ behind [] d (word_of n) 0 4 refl refl l)

    -- then one entry more
    pub header-turn : (i : ℕ) {there : Bool} {end : ℕ} {piece out next : List ℕ} → 4 + 8 * (i + 1) ≤ length d → out ≡ fronts i ++ drop (4 + 8 * i) d → piece ≡ bytes_of (files i) → there ≡ is_present (files i) → end ≡ header_size n + piece_start (pieces_of files) i → next ≡ written (written out (4 + 8 * i) (word_of (cond there end 0))) (8 + 8 * i) (word_of (length piece)) → next ≡ fronts (i + 1) ++ drop (4 + 8 * (i + 1)) d
    header-turn i l q p t e w =
        rw (w, q, p, t, e, joined-next (header_pair n files) i, entry-shown i)
        (two-behind (fronts i) d (4 + 8 * i) (8 + 8 * i) (4 + 8 * (i + 1)) _ _ (front_length i) (omega arith) (omega arith) l ∙ ap (λ r. r ++ drop (4 + 8 * (i + 1)) d) (regrouped (word_of n) (joined (header_pair n files) i) _ _))

    pub header-ends : (i : ℕ) {e out : List ℕ} → i ≡ n → e ≡ written d 0 (word_of n) → out ≡ fronts i ++ drop (4 + 8 * i) e → out ≡ header_of n files ++ drop (header_size n) d
    unfolding header_of header_size
    header-ends i h q w = w ∙ rw (h, q) (ap (λ r. fronts n ++ r) (written_back d 0 (word_of n) (4 + 8 * n) (omega (arith, word-length n))))

    pub files-begin : d ≡ take (header_size n) d ++ joined (pieces_of files) 0 ++ drop (header_size n + piece_start (pieces_of files) 0) d
    unfolding joined piece_start
    files-begin = rw (append-nil (take (header_size n) d), add-zero (header_size n)) (sym (take-append-drop (header_size n) d))

    pub files-turn : (i : ℕ) {end : ℕ} {piece out next : List ℕ} → i < n → bundle_length n files ≤ length d → out ≡ take (header_size n) d ++ joined (pieces_of files) i ++ drop (header_size n + piece_start (pieces_of files) i) d → piece ≡ bytes_of (files i) → end ≡ header_size n + piece_start (pieces_of files) i → next ≡ written out end piece → next ≡ take (header_size n) d ++ joined (pieces_of files) (i + 1) ++ drop (header_size n + piece_start (pieces_of files) (i + 1)) d
    unfolding pieces_of bundle_length
    files-turn i l h q p e w =
        rw (w, q, p, e, joined-next (pieces_of files) i, start-next (pieces_of files) i, ← append_assoc (take (header_size n) d) (joined (pieces_of files) i) (bytes_of (files i)))
        (behind (take (header_size n) d ++ joined (pieces_of files) i) d (bytes_of (files i)) (header_size n + piece_start (pieces_of files) i) (header_size n + (piece_start (pieces_of files) i + length (bytes_of (files i))))
        (omega (arith, length-append (take (header_size n) d) (joined (pieces_of files) i), length-take-le (header_size n) d (omega arith), joined_length (pieces_of files) i)) (omega arith) (omega (arith, start-end (pieces_of files) i n l)))

    pub files-end : (i : ℕ) {out : List ℕ} → i ≡ n → out ≡ take (header_size n) d ++ joined (pieces_of files) i ++ drop (header_size n + piece_start (pieces_of files) i) d → out ≡ take (header_size n) d ++ joined (pieces_of files) n ++ drop (bundle_length n files) d
    unfolding bundle_length
    files-end i e q = rw e at q

    -- the header and the files together
    rest-kept : drop (bundle_length n files) (header_of n files ++ drop (header_size n) d) ≡ drop (bundle_length n files) d
    unfolding bundle_length
    rest-kept = rw (← header-length n files) (drop-append-add (header_of n files) (drop (length (header_of n files)) d) (piece_start (pieces_of files) n) ∙ drop-drop (piece_start (pieces_of files) n) (length (header_of n files)) d)

    pub both-written : {a b : List ℕ} → a ≡ header_of n files ++ drop (header_size n) d → b ≡ take (header_size n) a ++ joined (pieces_of files) n ++ drop (bundle_length n files) a → b ≡ output_of n files d
    unfolding output_of bundle_of
    both-written q r = r ∙ rw (q, take_at (header_of n files) (drop (header_size n) d) (header_size n) (header-length n files), rest-kept)

-- ---- A change that is made
module _ (n : ℕ) (s : List ℕ) (k : ℕ) (f : File) {t : Made} (e : t ≡ tried_bundle n s k f) where
  tried-fault : t.refusal ≡ try_fault n s k f
  unfolding tried_bundle change_of
  tried-fault = ap (λ m. m.refusal) e

  module _ (fine : t.refusal ≡ 0) where
    fine-fault : try_fault n s k f ≡ 0
    fine-fault = sym tried-fault ∙ fine

    tried-length : t.length ≡ bundle_length n (files_after s k f)
    unfolding tried_bundle change_of
    tried-length = ap (λ m. m.length) e ∙ rw (eq-eqb _ 0 fine-fault)

    module _ (out : List ℕ) where
      module _ (l : t.length ≤ length out) where
        pub made-room : bundle_length n (files_after s k f) ≤ length out
        made-room = rw tried-length at l

        done : make_fault n s k f (length out) ≡ 0
        unfolding make_fault
        done = rw (eq-eqb _ 0 fine-fault, le-ltb (length out) _ made-room)

        pub made-done : {next : List ℕ} → next ≡ output_of n (files_after s k f) out → (record { refusal = 0; length = t.length } ≡ made_bundle n s k f (length out)) × (next ≡ output n s k f out)
        unfolding made_bundle change_of output
        made-done q = (rw (done, tried-length), rw done q)
