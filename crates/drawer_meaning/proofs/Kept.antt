-- After a change that is not refused the drawer is one again, its files are those from before with that one changed, and every byte
-- outside the header and all files is as it was.
-- Assumes nothing.
use Prim.Native.Nat.{ℕ, ◌+◌, ◌*◌, ◌-◌, ◌^◌, ◌≤◌, ◌<◌}
use mathlib.Core.Path.{◌≡◌, refl, sym, ap, ◌∙◌}
use mathlib.Core.Bool.{Bool, true, false}
use mathlib.Core.Logic.{◌⊎◌, inl, inr, ⊎_elim}
use mathlib.Core.List.{List, [], ◌∷◌, ◌++◌, append_assoc}
use native.Mathlib.Nat.{add-sub_cancel_left}
use native.Mathlib.Omega.{arith}
use borrow.Author.Tests.{le-ltb, eq-eqb, ne_eqb}
use lib.ListN.{length, get_or, take, drop, length-append, length-drop, take-append-drop}
use lib.Seq.{take_at, drop_at, drop-append-add, drop-drop, get_or-set_same, get_or-set_other, get_or-append-add, get_or-drop}
use Rattle.json_bytes.proofs.Laws.{by-test}
use Rattle.parts.specs.Files.{File, Left, Given, is_present, bytes_of}
use Rattle.parts.proofs.Laws.{part-is}
use Rattle.bundle_bytes.specs.Words.{word_at, word_of}
use Rattle.bundle_bytes.specs.Pieces.{joined}
use Rattle.bundle_bytes.proofs.Laws.{word-length, word-in-part, joined-part-within, changed-same, changed-other}
use Rattle.bundle_layout.specs.Bundle.{header_size, offset_at, length_at, is_omitted, part_at, file_at, pieces_of}
use Rattle.bundle_layout.specs.Change.{files_after}
use Rattle.bundle_layout.proofs.Laws.{omitted-file, present-file, omitted-offset}
use Rattle.drawer_layout.specs.Places.{places_moved_down}
use Rattle.drawer_layout.proofs.Laws.{Laid, laid_so, under-or-not}
use Rattle.drawer_moves.specs.Painted.{painted}
use Rattle.drawer_moves.proofs.Painting.{painted-length, painted-part, painted-byte}
use Rattle.drawer_moves.proofs.Sums.{list_at}
use Rattle.drawer_moves.proofs.Moves.{place-full}
use Rattle.drawer_held.specs.Drawer.{offsets_of, lengths_of, drawer_fault, drawer_change_fault, lengths_freed, lengths_after, places_after, entry_at, header_at, drawer_after}
use Rattle.drawer_held.proofs.Laws.{drawer-size, offset-is, length-is, file-stands, held-length, freed-other, new-piece, other-piece}
use Rattle.drawer_change.proofs.Lists.{same_or_not, moved-zero, moved_none}
use Rattle.drawer_change.proofs.Header.{entry-long, entries-start, header-long}
use Rattle.drawer_change.proofs.Placing.{drawer-fine, number-fine, freed-length, freed-laid, moved, base, put, new-there, places-laid, others}

-- two numbers that stand one behind the other
module _ (x u v : List ℕ) (lu : length u ≡ 4) (lv : length v ≡ 4) (e : take 8 x ≡ u ++ v) where
  whole : x ≡ u ++ (v ++ drop 8 x)
  whole = sym (take-append-drop 8 x) ∙ ap (λ r. r ++ drop 8 x) e ∙ append_assoc u v (drop 8 x)

  first_word : take 4 x ≡ u
  first_word = ap (take 4) whole ∙ take_at u (v ++ drop 8 x) 4 lu

  second_word : take 4 (drop 4 x) ≡ v
  second_word = ap (λ r. take 4 (drop 4 r)) whole ∙ ap (take 4) (drop_at u (v ++ drop 8 x) 4 lu) ∙ take_at v (drop 8 x) 4 lv

header-positive : (n : ℕ) → header_size n ≤ 0 → ⊥
unfolding header_size
header-positive n h = omega arith

no_bytes : (l : List ℕ) → length l ≡ 0 → l ≡ []
no_bytes [] e = refl
no_bytes (x ∷ l) e = absurd (omega arith)

-- a file by its two numbers
module _ (s : List ℕ) (i : ℕ) where
  omitted-so : offset_at s i ≡ 0 → length_at s i ≡ 0 → is_omitted s i ≡ true
  unfolding is_omitted
  omitted-so a b = rw (a, b)

  present-so : (offset_at s i ≡ 0 → ⊥) → is_omitted s i ≡ false
  unfolding is_omitted
  present-so a = rw (ne_eqb (offset_at s i) 0 a)

  left-omitted : file_at s i ≡ Left → is_omitted s i ≡ true
  left-omitted e = go (is_omitted s i) refl
    where
      go : (t : Bool) → is_omitted s i ≡ t → t ≡ true
      go true q = refl
      go false q = absurd (let z : Given (part_at s i) ≡ Left = sym (present-file s i q) ∙ e in let y : ◌≡◌ {A = ℕ} 0 1 = cc in omega arith)

  given-present : (b : List ℕ) → file_at s i ≡ Given b → is_omitted s i ≡ false
  given-present b e = go (is_omitted s i) refl
    where
      go : (t : Bool) → is_omitted s i ≡ t → t ≡ false
      go false q = refl
      go true q = absurd (let z : Left ≡ Given b = sym (omitted-file s i q) ∙ e in let y : ◌≡◌ {A = ℕ} 0 1 = cc in omega arith)

module _ (n : ℕ) (d : List ℕ) (k : ℕ) (f : File) (fine : drawer_change_fault n d k f ≡ 0) where
  abbrev after : List ℕ
  after = drawer_after n d k f

  abbrev places : List ℕ
  places = places_after n d k f

  abbrev lengths : List ℕ
  lengths = lengths_after n d k f

  abbrev body : List ℕ
  body = painted (pieces_of (files_after d k f)) places n d

  size_fits : (header_size n ≤ length d) × (length d ≤ 1048576)
  size_fits = drawer-size n d (drawer-fine n d k f fine)

  pub after-length : length after ≡ length d
  unfolding drawer_after
  after-length =
      omega (arith, length-append (header_at n places lengths) (drop (header_size n) body), header-long places lengths n, length-drop (header_size n) body, painted-length (pieces_of (files_after d k f)) places d n, size_fits.0)

  -- ---- the header reads back
  small : (i : ℕ) → i < n → (get_or places i 0 < 2 ^ 32) × (get_or lengths i 0 < 2 ^ 32)
  small i l = ⊎_elim (λ z. (omega (arith, z.0), omega (arith, z.1))) (λ z. (omega (arith, z.1, size_fits.1), omega (arith, z.1, size_fits.1))) ((places-laid n d k f fine).stands i l)

  entry-back : (i : ℕ) → i < n → take 8 (drop (4 + 8 * i) after) ≡ word_of (get_or places i 0) ++ word_of (get_or lengths i 0)
  unfolding drawer_after header_at entry_at
  entry-back i l =
      rw (entry-long places lengths i, word-length n, entries-start places lengths i) at (joined-part-within (entry_at places lengths) (word_of n) (drop (header_size n) body) i n l)

  pub offset-back : (i : ℕ) → i < n → offset_at after i ≡ get_or places i 0
  unfolding offset_at
  offset-back i l = word-in-part after (4 + 8 * i) (get_or places i 0) (small i l).0 (first_word (drop (4 + 8 * i) after) (word_of (get_or places i 0)) (word_of (get_or lengths i 0)) (word-length (get_or places i 0)) (word-length (get_or lengths i 0)) (entry-back i l))

  pub length_back : (i : ℕ) → i < n → length_at after i ≡ get_or lengths i 0
  unfolding length_at
  length_back i l =
      let ahead : 4 + 8 * i + 4 ≡ 8 + 8 * i = omega arith in
      word-in-part after (8 + 8 * i) (get_or lengths i 0) (small i l).1
      (rw (drop-drop 4 (4 + 8 * i) after, ahead) at (second_word (drop (4 + 8 * i) after) (word_of (get_or places i 0)) (word_of (get_or lengths i 0)) (word-length (get_or places i 0)) (word-length (get_or lengths i 0)) (entry-back i l)))

  count-back : word_at after 0 ≡ n
  unfolding drawer_after header_at header_size
  count-back =
      word-in-part after 0 n (omega (arith, size_fits.0, size_fits.1))
      (ap (take 4) (append_assoc (word_of n) (joined (entry_at places lengths) n) (drop (header_size n) body)) ∙ take_at (word_of n) (joined (entry_at places lengths) n ++ drop (header_size n) body) 4 (word-length n))

  -- ---- "layout kept"
  laid-after : Laid n (offsets_of n after) (lengths_of n after) (length after)
  unfolding offsets_of lengths_of
  laid-after =
      let ok = places-laid n d k f fine in
      record {
        stands = λ i l. rw (read-offset i l, read_length i l, after-length) (ok.stands i l);
        apart = λ i j l h e a b. rw (read-offset i l, read_length i l, read-offset j h, read_length j h) (ok.apart i j l h e (rw (read_length i l) at a) (rw (read_length j h) at b));
      }
    where
      read-offset : (i : ℕ) → i < n → get_or (offsets_of n after) i 0 ≡ get_or places i 0
      read-offset i l = list_at (offset_at after) n i l ∙ offset-back i l

      read_length : (i : ℕ) → i < n → get_or (lengths_of n after) i 0 ≡ get_or lengths i 0
      read_length i l = list_at (length_at after) n i l ∙ length_back i l

  pub layout-kept : drawer_fault n after ≡ 0
  unfolding drawer_fault
  layout-kept =
      rw (after-length, le-ltb (length d) (header_size n) size_fits.0, le-ltb 1048576 (length d) size_fits.1, eq-eqb (word_at after 0) n count-back, rw after-length at (laid_so n (offsets_of n after) (lengths_of n after) (length after) laid-after))

  -- ---- the files
  lengths-are : (i : ℕ) → i < n → get_or lengths i 0 ≡ length (pieces_of (files_after d k f) i)
  unfolding lengths_after
  lengths-are i l =
      let o = drawer-fine n d k f fine in
      let s = number-fine n d k f fine in
      ⊎_elim (λ q. rw q (get_or-set_same (lengths_freed n d k) k (length (bytes_of f)) 0 (omega (arith, freed-length n d k f fine, s)) ∙ sym (ap length (new-piece n d o k s f))))
      (λ q. get_or-set_other (lengths_freed n d k) k i (length (bytes_of f)) 0 q ∙ freed-other n d o k s i q ∙ length-is n d o i l ∙ sym (ap length (other-piece n d o k s f i q) ∙ held-length n d o i l)) (same_or_not i k)

  behind-header : (p : ℕ) → header_size n ≤ p → drop p after ≡ drop p body
  unfolding drawer_after
  behind-header p low =
      let far : header_size n + (p - header_size n) ≡ p = omega arith in
      ap (λ m. drop m after) (sym (ap (λ m. m + (p - header_size n)) (header-long places lengths n) ∙ far)) ∙ drop-append-add (header_at n places lengths) (drop (header_size n) body) (p - header_size n) ∙ drop-drop (p - header_size n) (header_size n) body ∙ ap (λ m. drop m body) far

  full-piece : (i : ℕ) → i < n → 0 < get_or lengths i 0 → take (get_or lengths i 0) (drop (get_or places i 0) body) ≡ pieces_of (files_after d k f) i
  full-piece i l a =
      let ok = places-laid n d k f fine in
      rw (lengths-are i l)
      (painted-part (pieces_of (files_after d k f)) places d i n l (⊎_elim (λ z. absurd (omega (arith, z.1))) (λ z. omega (arith, z.1, lengths-are i l)) (ok.stands i l))
      (λ j h q. ⊎_elim (λ b. inr (⊎_elim (λ z. inl (rw (lengths-are j h) at z)) (λ z. inr (rw (lengths-are i l) at z)) (ok.apart j i h l q b a))) (λ b. inl (no_bytes (pieces_of (files_after d k f) j) (omega (arith, lengths-are j h)))) (under-or-not 0 (get_or lengths j 0))))

  -- where another file stands
  base-gone : (i : ℕ) → i < n → is_omitted d i ≡ true → get_or (base n d k f fine) i 0 ≡ 0
  base-gone i l e =
      let z : get_or (offsets_of n d) i 0 ≡ 0 = offset-is n d (drawer-fine n d k f fine) i l ∙ omitted-offset d i e in
      by-test (λ b. get_or b i 0 ≡ 0) (moved n d k f fine) (places_moved_down n (offsets_of n d) (lengths_freed n d k)) (offsets_of n d) (λ q. moved-zero n (offsets_of n d) (lengths_freed n d k) i l z) (λ q. z)

  base_there : (i : ℕ) → i < n → is_omitted d i ≡ false → header_size n ≤ get_or (base n d k f fine) i 0
  unfolding is_omitted
  base_there i l e = by-test (λ b. header_size n ≤ get_or b i 0) (moved n d k f fine) (places_moved_down n (offsets_of n d) (lengths_freed n d k)) (offsets_of n d) (λ q. ⊎_elim full none (under-or-not 0 (get_or (lengths_freed n d k) i 0))) (λ q. stands)
    where
      stands : header_size n ≤ get_or (offsets_of n d) i 0
      stands = rw (offset-is n d (drawer-fine n d k f fine) i l) (⊎_elim (λ z. absurd (let y : true ≡ false = sym (omitted-so d i z.0 z.1) ∙ e in let x : ◌≡◌ {A = ℕ} 0 1 = cc in omega arith)) (λ z. z.0) (file-stands n d (drawer-fine n d k f fine) i l))

      full : 0 < get_or (lengths_freed n d k) i 0 → header_size n ≤ get_or (places_moved_down n (offsets_of n d) (lengths_freed n d k)) i 0
      full h = rw (place-full n (offsets_of n d) (lengths_freed n d k) (length d) (freed-laid n d k f fine) i l h) (omega arith)

      none : get_or (lengths_freed n d k) i 0 ≤ 0 → header_size n ≤ get_or (places_moved_down n (offsets_of n d) (lengths_freed n d k)) i 0
      none h = rw (moved_none n (offsets_of n d) (lengths_freed n d k) i l (λ z. header-positive n (rw z at stands)) (omega arith)) (omega arith)

  -- a piece stands where the header says
  piece-there : (i : ℕ) → i < n → header_size n ≤ get_or places i 0 → take (get_or lengths i 0) (drop (get_or places i 0) after) ≡ pieces_of (files_after d k f) i
  piece-there i l low = ⊎_elim full none (under-or-not 0 (get_or lengths i 0))
    where
      none : get_or lengths i 0 ≤ 0 → take (get_or lengths i 0) (drop (get_or places i 0) after) ≡ pieces_of (files_after d k f) i
      none h = let z : get_or lengths i 0 ≡ 0 = omega arith in rw z (sym (no_bytes (pieces_of (files_after d k f) i) (sym (lengths-are i l) ∙ z)))

      full : 0 < get_or lengths i 0 → take (get_or lengths i 0) (drop (get_or places i 0) after) ≡ pieces_of (files_after d k f) i
      full h = ap (take (get_or lengths i 0)) (behind-header (get_or places i 0) low) ∙ full-piece i l h

  part-back : (i : ℕ) → i < n → header_size n ≤ get_or places i 0 → part_at after i ≡ pieces_of (files_after d k f) i
  unfolding part_at
  part-back i l low =
      rw (offset-back i l, length_back i l, part-is after (get_or places i 0) (get_or places i 0 + get_or lengths i 0) (omega arith) (⊎_elim (λ z. absurd (header-positive n (rw z.0 at low))) (λ z. rw after-length z.1) ((places-laid n d k f fine).stands i l)), add-sub_cancel_left) (piece-there i l low)

  -- ---- "Bytes outside the header and all files are as before the change."
  pub bytes-outside : (j : ℕ) → header_size n ≤ j → ((i : ℕ) → i < n → (get_or lengths i 0 ≡ 0) ⊎ ((j < get_or places i 0) ⊎ (get_or places i 0 + get_or lengths i 0 ≤ j))) → get_or after j 0 ≡ get_or d j 0
  unfolding drawer_after
  bytes-outside j low out =
      let far : header_size n + (j - header_size n) ≡ j = omega arith in
      ap (λ m. get_or after m 0) (sym (ap (λ m. m + (j - header_size n)) (header-long places lengths n) ∙ far)) ∙ get_or-append-add (header_at n places lengths) (drop (header_size n) body) (j - header_size n) 0 ∙ get_or-drop (header_size n) body (j - header_size n) 0 ∙ ap (λ m. get_or body m 0) far
      ∙ painted-byte (pieces_of (files_after d k f)) places d j n
      (λ i l. ⊎_elim (λ z. inl (no_bytes (pieces_of (files_after d k f) i) (sym (lengths-are i l) ∙ z))) (λ z. inr (⊎_elim (λ y. inl y) (λ y. inr (rw (lengths-are i l) at y)) z)) (out i l))

  -- ---- "Every other file keeps its bytes": the files are those from before with that one changed
  gone : (i : ℕ) → i < n → files_after d k f i ≡ Left → get_or places i 0 ≡ 0
  unfolding files_after is_present
  gone i l e = ⊎_elim
      (λ q. rw q (new-there n d k f fine ∙ (put n d k f fine).gone (ap is_present (sym (changed-same (file_at d) k f) ∙ rw q at e))))
      (λ q. others n d k f fine i q ∙ base-gone i l (left-omitted d i (sym (changed-other (file_at d) k f i q) ∙ e))) (same_or_not i k)

  there : (i : ℕ) → i < n → (b : List ℕ) → files_after d k f i ≡ Given b → header_size n ≤ get_or places i 0
  unfolding files_after is_present
  there i l b e = ⊎_elim
      (λ q. rw q (rw (new-there n d k f fine) ((put n d k f fine).there (ap is_present (sym (changed-same (file_at d) k f) ∙ rw q at e)))))
      (λ q. rw (others n d k f fine i q) (base_there i l (given-present d i b (sym (changed-other (file_at d) k f i q) ∙ e)))) (same_or_not i k)

  pub files-after : (i : ℕ) → i < n → file_at after i ≡ files_after d k f i
  unfolding bytes_of pieces_of
  files-after i l = go (files_after d k f i) refl
    where
      go : (g : File) → files_after d k f i ≡ g → file_at after i ≡ g
      go Left e = omitted-file after i (omitted-so after i (offset-back i l ∙ gone i l e) (length_back i l ∙ lengths-are i l ∙ ap length (ap bytes_of e)))
      go (Given b) e =
          present-file after i (present-so after i (λ z. header-positive n (rw (sym (offset-back i l) ∙ z) at (there i l b e))))
          ∙ ap Given (part-back i l (there i l b e) ∙ ap bytes_of e)
