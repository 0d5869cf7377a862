-- What is known of numbers in bytes, of pieces one behind the other, and of bytes written over a part of others. The part
-- of a list from place a on, n long, is `take n (drop a l)`.
-- Assumes nothing.
use Prim.Native.Nat.{ℕ, zero, suc, ◌+◌, ◌*◌, ◌/◌, ◌%◌, ◌^◌, ◌-◌, ◌≤◌, ◌<◌}
use mathlib.Core.Path.{◌≡◌, refl, sym, ap, ◌∙◌}
use mathlib.Core.Bool.{Bool, true, false, cond}
use mathlib.Core.Logic.{◌⊎◌, ⊎_elim}
use mathlib.Core.List.{List, [], ◌∷◌, ◌++◌, append_assoc}
use native.Mathlib.Nat.{eq-or-lt_of_le, le_of_suc-le-suc, add-zero, div-div-eq-div-mul}
use native.Mathlib.Numerals.{add-one}
use native.Mathlib.Omega.{arith}
use borrow.Author.Tests.{le-leb, lt-leb, leb-true, eq-eqb, ne_eqb}
use mir.Syntax.{w8}
use mir.Val.{Fits}
use lib.ListN.{length, get_or, set, take, drop, length-append, length-drop, take-append-drop, get_or-eq_default}
use lib.Seq.{paste, paste-suc, take_all, take-length, take_at, drop_at, take-append_seam, drop-append_seam, take-append-le, drop-append-le, drop-append-add, drop-drop, get_or-take, get_or-drop, length-take-le, take-take}
use lib.Dec.{leb, eqb}
use Rattle.bundle_bytes.specs.Words.{word_at, word_of}
use Rattle.bundle_bytes.specs.Pieces.{joined, piece_start, changed, written}

-- ---- a part of two lists, one behind the other
module _ {A : Type 0} (a n : ℕ) (xs ys : List A) where
  -- it lies in the first
  pub part-front : a + n ≤ length xs → take n (drop a (xs ++ ys)) ≡ take n (drop a xs)
  part-front l = rw (drop-append-le a xs ys (omega arith)) (take-append-le n (drop a xs) ys (omega (arith, length-drop a xs)))

  -- it lies in the second
  pub part-behind : take n (drop (length xs + a) (xs ++ ys)) ≡ take n (drop a ys)
  part-behind = rw (drop-append-add xs ys a)

-- ---- bytes written over a part of others
module _ (d : List ℕ) (at : ℕ) (v : List ℕ) where
  -- where there is no room, nothing is written
  pub written_none : length d < at + length v → d ≡ written d at v
  unfolding written
  written_none l = rw (lt-leb (at + length v) (length d) l)

  pub written-fits : at + length v ≤ length d → written d at v ≡ take at d ++ v ++ drop (at + length v) d
  unfolding written
  written-fits l = rw (le-leb (at + length v) (length d) l)

  -- byte by byte, until none is left
  pub written-whole : (n : ℕ) → n ≡ length v → at + length v ≤ length d → paste d at v n ≡ written d at v
  written-whole n e l = rw (e, take_all (length v) v (omega arith), written-fits l)

  -- a law of what is there afterwards, from the two cases
  by-room : (P : List ℕ → Type 0) → P d → (at + length v ≤ length d → P (take at d ++ v ++ drop (at + length v) d)) → P (written d at v)
  unfolding written
  by-room P n f = go (leb (at + length v) (length d)) (leb-true (at + length v) (length d))
    where
      go : (t : Bool) → (t ≡ true → at + length v ≤ length d) → P (cond t (take at d ++ v ++ drop (at + length v) d) d)
      go true l = f (l refl)
      go false l = n

  pub written-length : length (written d at v) ≡ length d
  written-length =
      by-room (λ r. length r ≡ length d) refl
      (λ l. omega (arith, length-append (take at d ++ v) (drop (at + length v) d), length-append (take at d) v, length-take-le at d (omega arith), length-drop (at + length v) d))

  -- the part that was written
  pub written-part : at + length v ≤ length d → take (length v) (drop at (written d at v)) ≡ v
  written-part l =
      rw (written-fits l, append_assoc (take at d) v (drop (at + length v) d), drop_at (take at d) (v ++ drop (at + length v) d) at (length-take-le at d (omega arith)))
      (take-append_seam v (drop (at + length v) d))

  -- what lies before it, and what lies behind it, is as it was
  pub written-front : (a : ℕ) → a ≤ at → take a (written d at v) ≡ take a d
  written-front a h =
      by-room (λ r. take a r ≡ take a d) refl
      (λ l. let e : length (take at d) ≡ at = length-take-le at d (omega arith) in
      rw (append_assoc (take at d) v (drop (at + length v) d), take-append-le a (take at d) (v ++ drop (at + length v) d) (omega arith)) (take-take a at d h))

  pub written_back : (a : ℕ) → at + length v ≤ a → drop a (written d at v) ≡ drop a d
  written_back a h = by-room (λ r. drop a r ≡ drop a d) refl (λ l. sym (split (take at d ++ v ++ drop (at + length v) d)) ∙ ap (drop (a - (at + length v))) (behind l) ∙ split d)
    where
      far : at + length v + (a - (at + length v)) ≡ a
      far = omega arith

      split : (r : List ℕ) → drop (a - (at + length v)) (drop (at + length v) r) ≡ drop a r
      split r = drop-drop (a - (at + length v)) (at + length v) r ∙ ap (λ k. drop k r) far

      behind : at + length v ≤ length d → drop (at + length v) (take at d ++ v ++ drop (at + length v) d) ≡ drop (at + length v) d
      behind l = drop_at (take at d ++ v) (drop (at + length v) d) (at + length v) (omega (arith, length-append (take at d) v, length-take-le at d (omega arith)))

  pub written-part-before : (a n : ℕ) → a + n ≤ at → take n (drop a (written d at v)) ≡ take n (drop a d)
  written-part-before a n h =
      by-room (λ r. take n (drop a r) ≡ take n (drop a d)) refl
      (λ l. let e : length (take at d) ≡ at = length-take-le at d (omega arith) in
      rw (append_assoc (take at d) v (drop (at + length v) d)) (part-front a n (take at d) (v ++ drop (at + length v) d) (omega arith) ∙ sym (part-front a n (take at d) (drop at d) (omega arith)) ∙ ap (λ r. take n (drop a r)) (take-append-drop at d)))

  pub written-part-behind : (a n : ℕ) → at + length v ≤ a → take n (drop a (written d at v)) ≡ take n (drop a d)
  written-part-behind a n h = ap (take n) (written_back a h)

-- behind a front p that is written already
pub written_behind : (p d v : List ℕ) → length p + length v ≤ length d → written (p ++ drop (length p) d) (length p) v ≡ (p ++ v) ++ drop (length (p ++ v)) d
written_behind p d v l =
    rw (written-fits (p ++ drop (length p) d) (length p) v (omega (arith, length-append p (drop (length p) d), length-drop (length p) d)), take-append_seam p (drop (length p) d), drop-append-add p (drop (length p) d) (length v), drop-drop (length v) (length p) d, length-append p v)

-- one turn of the copy
pub pasted-more : (d : List ℕ) (at : ℕ) (v : List ℕ) (i : ℕ) → at + length v ≤ length d → i < length v → {e : List ℕ} → e ≡ paste d at v i → set e (at + i) (get_or v i 0) ≡ paste d at v (i + 1)
pasted-more d at v i l h q = rw (q, add-one i) (paste-suc d at v i 0 (omega arith) h)

-- ---- numbers in bytes
-- past the end there are only bytes that count 0
pub word-past : (s : List ℕ) (i : ℕ) → length s ≤ i → 0 ≡ word_at s i
unfolding word_at
word-past s i l =
    rw (get_or-eq_default s 0 l, get_or-eq_default s 0 {n = i + 1} (omega arith), get_or-eq_default s 0 {n = i + 2} (omega arith), get_or-eq_default s 0 {n = i + 3} (omega arith))

-- as the elements of a slice of bytes are known: each is below 256, and past the end stands 0
abbrev pub Bytes : List ℕ → Type 0
Bytes s = (j : ℕ) → get_or s j 0 < 256

pub bytes-known : (s : List ℕ) → ((j : ℕ) → Fits w8 (get_or s j 0)) → Bytes s
bytes-known s f j = (f j).fits

pub word-length : (x : ℕ) → length (word_of x) ≡ 4
unfolding word_of
word-length x = refl

-- a number is what its four bytes come to
word_value : (x : ℕ) → x < 2 ^ 32 → x % 256 + x / 256 % 256 * 256 + x / 65536 % 256 * 65536 + x / 16777216 % 256 * 16777216 ≡ x
word_value x l = rw (← div-div-eq-div-mul x 65536 256, ← div-div-eq-div-mul x 256 256) (omega arith)

-- four bytes are those of the number that they come to
module _ (a b c d : ℕ) (ha : a < 256) (hb : b < 256) (hc : c < 256) (hd : d < 256) where
  value-small : a + b * 256 + c * 65536 + d * 16777216 < 2 ^ 32
  value-small = omega arith

  value-bytes : word_of (a + b * 256 + c * 65536 + d * 16777216) ≡ a ∷ b ∷ c ∷ d ∷ []
  unfolding word_of
  value-bytes = rw (one, two, three, four)
    where
      one : (a + b * 256 + c * 65536 + d * 16777216) % 256 ≡ a
      one = omega arith

      two : (a + b * 256 + c * 65536 + d * 16777216) / 256 % 256 ≡ b
      two = omega arith

      three : (a + b * 256 + c * 65536 + d * 16777216) / 65536 % 256 ≡ c
      three = omega arith

      four : (a + b * 256 + c * 65536 + d * 16777216) / 16777216 % 256 ≡ d
      four = omega arith

-- the number at a place is that of the four bytes there
pub word_of_part : (s : List ℕ) (i : ℕ) → word_at s i ≡ word_at (take 4 (drop i s)) 0
unfolding word_at
word_of_part s i = rw (at 0 (omega arith), at 1 (omega arith), at 2 (omega arith), at 3 (omega arith), add-zero i)
  where
    at : (k : ℕ) → k < 4 → get_or (take 4 (drop i s)) k 0 ≡ get_or s (i + k) 0
    at k l = get_or-take 4 (drop i s) k 0 l ∙ get_or-drop i s k 0

-- the number where its bytes stand
pub word-in-part : (s : List ℕ) (i x : ℕ) → x < 2 ^ 32 → take 4 (drop i s) ≡ word_of x → word_at s i ≡ x
unfolding word_at word_of
word-in-part s i x l e = word_of_part s i ∙ ap (λ r. word_at r 0) e ∙ word_value x l

pub word_back : (a b : List ℕ) (x : ℕ) → x < 2 ^ 32 → word_at (a ++ word_of x ++ b) (length a) ≡ x
word_back a b x l = word-in-part (a ++ word_of x ++ b) (length a) x l (rw (append_assoc a (word_of x) b, drop-append_seam a (word_of x ++ b)) (take_at (word_of x) b 4 (word-length x)))

module _ (s : List ℕ) (i : ℕ) (bs : Bytes s) where
  pub word_small : word_at s i < 2 ^ 32
  unfolding word_at
  word_small = value-small (get_or s i 0) (get_or s (i + 1) 0) (get_or s (i + 2) 0) (get_or s (i + 3) 0) (bs i) (bs (i + 1)) (bs (i + 2)) (bs (i + 3))

  pub word-again : i + 4 ≤ length s → take 4 (drop i s) ≡ word_of (word_at s i)
  unfolding word_at
  word-again l =
      four (drop i s) (omega (arith, length-drop i s)) ∙ rw (get_or-drop i s 0 0, get_or-drop i s 1 0, get_or-drop i s 2 0, get_or-drop i s 3 0, add-zero i) (sym (value-bytes (get_or s i 0) (get_or s (i + 1) 0) (get_or s (i + 2) 0) (get_or s (i + 3) 0) (bs i) (bs (i + 1)) (bs (i + 2)) (bs (i + 3))))
    where
      four : (l : List ℕ) → 4 ≤ length l → take 4 l ≡ get_or l 0 0 ∷ get_or l 1 0 ∷ get_or l 2 0 ∷ get_or l 3 0 ∷ []
      four [] h = absurd (omega arith)
      four (a ∷ []) h = absurd (omega arith)
      four (a ∷ b ∷ []) h = absurd (omega arith)
      four (a ∷ b ∷ c ∷ []) h = absurd (omega arith)
      four (a ∷ b ∷ c ∷ d ∷ r) h = refl

-- a number that was written, and one that stands elsewhere
pub word-written : (d : List ℕ) (at x : ℕ) → x < 2 ^ 32 → at + 4 ≤ length d → word_at (written d at (word_of x)) at ≡ x
unfolding word_of
word-written d at x l h = word-in-part (written d at (word_of x)) at x l (written-part d at (word_of x) h)

module _ (d : List ℕ) (at : ℕ) (v : List ℕ) (i : ℕ) where
  pub word-before : i + 4 ≤ at → word_at (written d at v) i ≡ word_at d i
  word-before h = word_of_part (written d at v) i ∙ ap (λ r. word_at r 0) (written-part-before d at v i 4 h) ∙ sym (word_of_part d i)

  pub word-behind : at + length v ≤ i → word_at (written d at v) i ≡ word_at d i
  word-behind h = word_of_part (written d at v) i ∙ ap (λ r. word_at r 0) (written-part-behind d at v i 4 h) ∙ sym (word_of_part d i)

-- ---- other things at one place
module _ {A : Type 0} (f : ℕ → A) (k : ℕ) (x : A) where
  pub changed-same : changed f k x k ≡ x
  unfolding changed
  changed-same = rw (eq-eqb k k refl)

  pub changed-other : (j : ℕ) → (j ≡ k → ⊥) → changed f k x j ≡ f j
  unfolding changed
  changed-other j n = rw (ne_eqb j k n)

  -- the two by the test as a call answers it
  pub changed-hit : (j : ℕ) → eqb j k ≡ true → changed f k x j ≡ x
  unfolding changed
  changed-hit j e = rw e

  pub changed-miss : (j : ℕ) → eqb j k ≡ false → changed f k x j ≡ f j
  unfolding changed
  changed-miss j e = rw e

-- ---- pieces one behind the other
last-or-before : (i n : ℕ) → i < suc n → (i ≡ n) ⊎ (i < n)
last-or-before i n l = eq-or-lt_of_le (le_of_suc-le-suc l)

module _ (g : ℕ → List ℕ) where
  pub joined-next : (n : ℕ) → joined g (n + 1) ≡ joined g n ++ g n
  unfolding joined
  joined-next n = rw (add-one n)

  pub start-next : (n : ℕ) → piece_start g (n + 1) ≡ piece_start g n + length (g n)
  unfolding piece_start
  start-next n = rw (add-one n)

  pub joined_length : (n : ℕ) → length (joined g n) ≡ piece_start g n
  unfolding joined piece_start
  joined_length zero = refl
  joined_length (suc n) = length-append (joined g n) (g n) ∙ ap (λ k. k + length (g n)) (joined_length n)

  -- a piece ends where the next one starts, and before all later ones
  pub start-end : (i n : ℕ) → i < n → piece_start g i + length (g i) ≤ piece_start g n
  unfolding piece_start
  start-end i zero l = omega arith
  start-end i (suc n) l = ⊎_elim (λ e. rw e (omega arith)) (λ h. omega (arith, start-end i n h)) (last-or-before i n l)

  pub start-grows : (i n : ℕ) → i ≤ n → piece_start g i ≤ piece_start g n
  start-grows i n l = ⊎_elim (λ e. rw e (omega arith)) (λ h. omega (arith, start-end i n h)) (eq-or-lt_of_le l)

  -- each piece is the part from its start on
  pub joined-part : (i n : ℕ) → i < n → take (length (g i)) (drop (piece_start g i) (joined g n)) ≡ g i
  unfolding joined
  joined-part i zero l = absurd (omega arith)
  joined-part i (suc n) l =
      ⊎_elim (λ e. rw e (ap (take (length (g n))) (drop_at (joined g n) (g n) (piece_start g n) (joined_length n)) ∙ take-length (g n)))
      (λ h. part-front (piece_start g i) (length (g i)) (joined g n) (g n) (omega (arith, joined_length n, start-end i n h)) ∙ joined-part i n h) (last-or-before i n l)

  -- also with bytes before all pieces, and behind them
  pub joined-part-behind : (p : List ℕ) (i n : ℕ) → i < n → take (length (g i)) (drop (length p + piece_start g i) (p ++ joined g n)) ≡ g i
  joined-part-behind p i n l = part-behind (piece_start g i) (length (g i)) p (joined g n) ∙ joined-part i n l

  pub joined-part-within : (p q : List ℕ) (i n : ℕ) → i < n → take (length (g i)) (drop (length p + piece_start g i) (p ++ joined g n ++ q)) ≡ g i
  joined-part-within p q i n l =
      part-front (length p + piece_start g i) (length (g i)) (p ++ joined g n) q (omega (arith, length-append p (joined g n), joined_length n, start-end i n l)) ∙ joined-part-behind p i n l

-- the same pieces stand the same
module _ (g h : ℕ → List ℕ) where
  pub joined_same : (n : ℕ) → ((i : ℕ) → i < n → g i ≡ h i) → joined g n ≡ joined h n
  unfolding joined
  joined_same zero e = refl
  joined_same (suc n) e = rw (joined_same n (λ i l. e i (omega arith)), e n (omega arith))

  pub start_of-same : (n : ℕ) → ((i : ℕ) → i < n → g i ≡ h i) → piece_start g n ≡ piece_start h n
  start_of-same n e = sym (joined_length g n) ∙ ap length (joined_same n e) ∙ joined_length h n

-- with another piece at place k
module _ (g : ℕ → List ℕ) (k : ℕ) (v : List ℕ) where
  -- all up to it start where they did
  pub start-before : (i : ℕ) → i ≤ k → piece_start (changed g k v) i ≡ piece_start g i
  start-before i l = start_of-same (changed g k v) g i (λ j h. changed-other g k v j (omega arith))

  -- and all behind it by as much later as it is longer
  pub start-changed : (n : ℕ) → k < n → piece_start (changed g k v) n + length (g k) ≡ piece_start g n + length v
  unfolding piece_start
  start-changed zero l = absurd (omega arith)
  start-changed (suc n) l =
      ⊎_elim last
      (λ h. omega (arith, start-changed n h, ap length (changed-other g k v n (omega arith)))) (last-or-before k n l)
    where
      last : k ≡ n → piece_start (changed g k v) n + length (changed g k v n) + length (g k) ≡ piece_start g n + length (g n) + length v
      last e = rw (← e, changed-same g k v, start-before k (omega arith)) (omega arith)
