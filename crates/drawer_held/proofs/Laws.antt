-- What is known of a drawer that is not refused, and of the lengths after a change of it.
-- Assumes nothing.
use Prim.Native.Nat.{ℕ, zero, suc, ◌+◌, ◌*◌, ◌≤◌, ◌<◌}
use mathlib.Core.Path.{◌≡◌, refl, sym, ap, ◌∙◌}
use mathlib.Core.Bool.{Bool, true, false, cond, ◌||◌}
use mathlib.Core.Logic.{◌⊎◌, ⊎_elim}
use mathlib.Core.List.{List, [], ◌∷◌, ◌++◌, append-nil}
use native.Mathlib.Nat.{add-sub_cancel_left, zero-add}
use native.Mathlib.Numerals.{add-one}
use native.Mathlib.Omega.{arith}
use borrow.Author.Tests.{ltb-true, ltb-false, eqb-true, eqb-false, lt-ltb, le-ltb, eq-eqb, ne_eqb}
use lib.ListN.{length, get_or, take, drop, set, length-drop}
use lib.Seq.{get_or-set_same, get_or-set_other, drop-length, set-append_seam, append_snoc, drop-cons, length-take-le}
use lib.Dec.{ltb, eqb}
use Rattle.json_bytes.proofs.Laws.{by-test}
use Rattle.parts.specs.Files.{File, Left, Given, bytes_of}
use Rattle.parts.proofs.Laws.{part-is}
use Rattle.bundle_bytes.specs.Words.{word_at}
use Rattle.bundle_bytes.specs.Pieces.{piece_start}
use Rattle.bundle_bytes.proofs.Laws.{changed-same, changed-other}
use Rattle.bundle_layout.specs.Bundle.{header_size, offset_at, length_at, is_omitted, part_at, file_at, pieces_of, bundle_length}
use Rattle.bundle_layout.specs.Change.{files_after}
use Rattle.bundle_layout.proofs.Laws.{omitted-length}
use Rattle.drawer_layout.specs.Places.{total, list_of, all_lengths, stand_apart}
use Rattle.drawer_layout.proofs.Laws.{Laid, laid}
use Rattle.drawer_moves.specs.Painted.{part_in}
use Rattle.drawer_moves.proofs.Sums.{total-step, list_at, list_length}
use Rattle.drawer_held.specs.Drawer.{header_number, offsets_of, lengths_of, drawer_fault, held_fault, part_held, drawer_change_fault, lengths_freed}

-- ---- numbers read into a list, one more with each turn
abbrev pub Filled : (ℕ → ℕ) → ℕ → List ℕ → List ℕ → Type 0
Filled h i old out = out ≡ list_of h i ++ drop i old

module _ (h : ℕ → ℕ) (old : List ℕ) where
  pub fill_start : Filled h 0 old old
  unfolding list_of
  fill_start = refl

  pub fill-turn : (i : ℕ) {x : ℕ} {out : List ℕ} → i < length old → Filled h i old out → x ≡ h i → Filled h (i + 1) old (set out i x)
  unfolding list_of
  fill-turn i {x} l e q =
      rw (e, q, add-one i, list_of, drop-cons old i 0 l)
      (ap (λ k. set (list_of h i ++ get_or old i 0 ∷ drop (suc i) old) k (h i)) (sym (list_length h i)) ∙ set-append_seam (list_of h i) (get_or old i 0) (drop (suc i) old) (h i) ∙ sym (append_snoc (list_of h i) (h i) (drop (suc i) old)))

  pub fill_end : (i : ℕ) {out : List ℕ} → i ≡ length old → Filled h i old out → out ≡ list_of h (length old)
  fill_end i e q = q ∙ rw e (ap (λ r. list_of h (length old) ++ r) (drop-length old) ∙ append-nil (list_of h (length old)))

-- the number that a turn reads
pub number_read : (d : List ℕ) (lengths : Bool) (i : ℕ) {at x : ℕ} → at ≡ cond lengths 8 4 → x ≡ word_at d (at + 8 * i) → x ≡ header_number d lengths i
unfolding header_number offset_at length_at
number_read d true i e q = q ∙ rw e
number_read d false i e q = q ∙ rw e

pub offsets-read : (n : ℕ) (d : List ℕ) {out : List ℕ} → out ≡ list_of (header_number d false) n → out ≡ offsets_of n d
unfolding header_number offsets_of
offsets-read n d q = q

pub lengths_read : (n : ℕ) (d : List ℕ) {out : List ℕ} → out ≡ list_of (header_number d true) n → out ≡ lengths_of n d
unfolding header_number lengths_of
lengths_read n d q = q

-- ---- the refusals, as the code finds them
module _ (d : List ℕ) where
  pub fault-long : 1048576 < length d → 1 ≡ drawer_fault 20 d
  unfolding drawer_fault header_size
  fault-long l = rw (le-ltb (length d) 164 (omega arith), lt-ltb 1048576 (length d) l)

  pub fault-short : length d < 164 → 1 ≡ drawer_fault 20 d
  unfolding drawer_fault header_size
  fault-short l = rw (lt-ltb (length d) 164 l)

  module _ (a : length d ≤ 1048576) (b : 164 ≤ length d) where
    pub fault-count : {x : ℕ} → x ≡ word_at d 0 → (x ≡ 20 → ⊥) → 2 ≡ drawer_fault 20 d
    unfolding drawer_fault header_size
    fault-count e n = rw (le-ltb (length d) 164 b, le-ltb 1048576 (length d) a, ne_eqb (word_at d 0) 20 (λ q. n (e ∙ q)))

    pub fault-laid : {x : ℕ} {t : Bool} {offs lens : List ℕ} → x ≡ word_at d 0 → x ≡ 20 → offs ≡ offsets_of 20 d → lens ≡ lengths_of 20 d → t ≡ stand_apart 20 offs lens (length d) 20 → cond t 0 3 ≡ drawer_fault 20 d
    unfolding drawer_fault header_size
    fault-laid e n p q s = rw (le-ltb (length d) 164 b, le-ltb 1048576 (length d) a, eq-eqb (word_at d 0) 20 (sym e ∙ n), s, p, q)

module _ (n : ℕ) (d : List ℕ) (k : ℕ) {x : ℕ} (e : x ≡ drawer_fault n d) where
  pub held-refused : (x ≡ 0 → ⊥) → x ≡ held_fault n d k
  unfolding held_fault
  held-refused z = rw (ne_eqb (drawer_fault n d) 0 (λ q. z (e ∙ q))) e

  pub held-fine : x ≡ 0 → k < n → 0 ≡ held_fault n d k
  unfolding held_fault
  held-fine z l = rw (eq-eqb (drawer_fault n d) 0 (sym e ∙ z), lt-ltb k n l)

module _ (n : ℕ) (d : List ℕ) (k : ℕ) {x : ℕ} (e : x ≡ held_fault n d k) where
  pub part-refused : (x ≡ 0 → ⊥) → [] ≡ part_held n d k
  unfolding part_held
  part-refused z = rw (ne_eqb (held_fault n d k) 0 (λ q. z (e ∙ q)))

  module _ (f : File) where
    pub change-refused : (x ≡ 0 → ⊥) → x ≡ drawer_change_fault n d k f
    unfolding drawer_change_fault
    change-refused z = rw (ne_eqb (held_fault n d k) 0 (λ q. z (e ∙ q))) e

    pub change-fine : {y : ℕ} → x ≡ 0 → y ≡ bundle_length n (files_after d k f) → y ≤ length d → 0 ≡ drawer_change_fault n d k f
    unfolding drawer_change_fault
    change-fine z q l = rw (eq-eqb (held_fault n d k) 0 (sym e ∙ z), le-ltb (length d) (bundle_length n (files_after d k f)) (rw q at l))

-- ---- what no refusal says
none_found : (a b c : Bool) → ◌≡◌ {A = ℕ} (cond a 1 (cond b (cond c 0 3) 2)) 0 → (a ≡ false) × (b ≡ true) × (c ≡ true)
none_found true b c e = absurd (omega (arith, e))
none_found false false c e = absurd (omega (arith, e))
none_found false true false e = absurd (omega (arith, e))
none_found false true true e = (refl, refl, refl)

neither : (a b : Bool) → (a || b) ≡ false → (a ≡ false) × (b ≡ false)
neither true b e = (e, cc)
neither false b e = (refl, e)

passed : (x a : ℕ) → cond (eqb x 0) a x ≡ 0 → (x ≡ 0) × (a ≡ 0)
passed x a e = go (eqb x 0) refl e
  where
    go : (t : Bool) → eqb x 0 ≡ t → cond t a x ≡ 0 → (x ≡ 0) × (a ≡ 0)
    go true p e = (eqb-true x 0 p, e)
    go false p e = absurd (eqb-false x 0 p e)

start-total : (g : ℕ → List ℕ) (n : ℕ) → piece_start g n ≡ total (λ j. length (g j)) n
unfolding piece_start total
start-total g zero = refl
start-total g (suc n) = ap (λ r. r + length (g n)) (start-total g n)

is-under : (a b c : ℕ) → cond (ltb a b) 0 (suc c) ≡ 0 → a < b
is-under a b c e = by-test (λ r. r ≡ 0 → a < b) (ltb a b) 0 (suc c) (λ q h. ltb-true a b q) (λ q h. absurd (omega arith)) e

not-under : (a b c : ℕ) → cond (ltb a b) (suc c) 0 ≡ 0 → b ≤ a
not-under a b c e = by-test (λ r. r ≡ 0 → b ≤ a) (ltb a b) (suc c) 0 (λ q h. absurd (omega arith)) (λ q h. ltb-false a b q) e

pub held_none : (n : ℕ) (d : List ℕ) (k : ℕ) → held_fault n d k ≡ 0 → (drawer_fault n d ≡ 0) × (k < n)
unfolding held_fault
held_none n d k e =
    let p = passed (drawer_fault n d) (cond (ltb k n) 0 4) e in
    (p.0, is-under k n 3 p.1)

pub change-none : (n : ℕ) (d : List ℕ) (k : ℕ) (f : File) → drawer_change_fault n d k f ≡ 0 → (drawer_fault n d ≡ 0) × (k < n) × (bundle_length n (files_after d k f) ≤ length d)
unfolding drawer_change_fault
change-none n d k f e =
    let p = passed (held_fault n d k) (cond (ltb (length d) (bundle_length n (files_after d k f))) 11 0) e in
    ((held_none n d k p.0).0, (held_none n d k p.0).1, not-under (length d) (bundle_length n (files_after d k f)) 10 p.1)

module _ (n : ℕ) (d : List ℕ) (fine : drawer_fault n d ≡ 0) where
  tests : ((ltb (length d) (header_size n) || ltb 1048576 (length d)) ≡ false) × (eqb (word_at d 0) n ≡ true) × (stand_apart n (offsets_of n d) (lengths_of n d) (length d) n ≡ true)
  unfolding drawer_fault
  tests = none_found (ltb (length d) (header_size n) || ltb 1048576 (length d)) (eqb (word_at d 0) n) (stand_apart n (offsets_of n d) (lengths_of n d) (length d) n) fine

  pub drawer-size : (header_size n ≤ length d) × (length d ≤ 1048576)
  drawer-size =
      let s = neither (ltb (length d) (header_size n)) (ltb 1048576 (length d)) tests.0 in
      (ltb-false (length d) (header_size n) s.0, ltb-false 1048576 (length d) s.1)

  pub drawer-laid : Laid n (offsets_of n d) (lengths_of n d) (length d)
  drawer-laid = laid n (offsets_of n d) (lengths_of n d) (length d) tests.2

  pub offset-is : (i : ℕ) → i < n → get_or (offsets_of n d) i 0 ≡ offset_at d i
  unfolding offsets_of
  offset-is i l = list_at (offset_at d) n i l

  pub length-is : (i : ℕ) → i < n → get_or (lengths_of n d) i 0 ≡ length_at d i
  unfolding lengths_of
  length-is i l = list_at (length_at d) n i l

  -- a file is omitted, or stands inside
  pub file-stands : (i : ℕ) → i < n → ((offset_at d i ≡ 0) × (length_at d i ≡ 0)) ⊎ ((header_size n ≤ offset_at d i) × (offset_at d i + length_at d i ≤ length d))
  file-stands i l = rw (offset-is i l, length-is i l) at (drawer-laid.stands i l)

  pub held_bytes : (i : ℕ) → i < n → bytes_of (file_at d i) ≡ part_in d (offsets_of n d) (lengths_of n d) i
  unfolding part_in file_at bytes_of part_at
  held_bytes i l =
      rw (offset-is i l, length-is i l)
      (by-test (λ f. bytes_of f ≡ take (length_at d i) (drop (offset_at d i) d)) (is_omitted d i) Left (Given (part_at d i))
      (λ e. rw (omitted-length d i e))
      (λ e. ⊎_elim (λ z. rw (part-is d (offset_at d i) (offset_at d i + length_at d i) (omega arith) (omega (arith, z.0, z.1)), add-sub_cancel_left)) (λ z. rw (part-is d (offset_at d i) (offset_at d i + length_at d i) (omega arith) z.1, add-sub_cancel_left)) (file-stands i l)))

  pub held-length : (i : ℕ) → i < n → length (bytes_of (file_at d i)) ≡ length_at d i
  unfolding part_in
  held-length i l =
      rw (held_bytes i l, offset-is i l, length-is i l)
      (length-take-le (length_at d i) (drop (offset_at d i) d) (⊎_elim (λ z. omega (arith, z.1)) (λ z. omega (arith, z.1, length-drop (offset_at d i) d)) (file-stands i l)))

  module _ (k : ℕ) (small : k < n) where
    pub freed-same : get_or (lengths_freed n d k) k 0 ≡ 0
    unfolding lengths_freed lengths_of
    freed-same = get_or-set_same (lengths_of n d) k 0 0 (omega (arith, list_length (length_at d) n))

    pub freed-other : (i : ℕ) → (i ≡ k → ⊥) → get_or (lengths_freed n d k) i 0 ≡ get_or (lengths_of n d) i 0
    unfolding lengths_freed
    freed-other i q = get_or-set_other (lengths_of n d) k i 0 0 q

    pub new-piece : (f : File) → pieces_of (files_after d k f) k ≡ bytes_of f
    unfolding pieces_of files_after
    new-piece f = ap bytes_of (changed-same (file_at d) k f)

    pub other-piece : (f : File) (i : ℕ) → (i ≡ k → ⊥) → pieces_of (files_after d k f) i ≡ bytes_of (file_at d i)
    unfolding pieces_of files_after
    other-piece f i q = ap bytes_of (changed-other (file_at d) k f i q)

    -- "the present lengths after it and 164"
    pub length-changed : (f : File) → bundle_length n (files_after d k f) ≡ header_size n + all_lengths n (lengths_freed n d k) + length (bytes_of f)
    unfolding bundle_length all_lengths
    length-changed f =
        ap (λ r. header_size n + r)
        (start-total (pieces_of (files_after d k f)) n ∙ total-step (λ j. get_or (lengths_freed n d k) j 0) (λ j. length (pieces_of (files_after d k f) j)) n k (length (bytes_of f)) small
        (rw freed-same (ap length (new-piece f) ∙ sym (zero-add (length (bytes_of f))))) (λ j l q. ap length (other-piece f j q) ∙ held-length j l ∙ sym (freed-other j q ∙ length-is j l)))
        ∙ omega arith

-- ---- the length as the code adds it up
pub length-added : (d : List ℕ) (k : ℕ) (f : File) {lens piece : List ℕ} {sum : ℕ} → held_fault 20 d k ≡ 0 → lens ≡ lengths_of 20 d → sum ≡ all_lengths 20 (set lens k 0) → piece ≡ bytes_of f → 164 + sum + length piece ≡ bundle_length 20 (files_after d k f)
unfolding lengths_freed header_size
length-added d k f fine l s p =
    let h = held_none 20 d k fine in
    rw (s, l, p) (sym (length-changed 20 d h.0 k h.1 f))
