-- A number's bytes each by itself: what bit operations and sums that do not carry make of them, and what the place of the
-- first flag says of a run of bytes.
-- Assumes nothing.
use Rattle.std.proofs.Common.{◌≡◌, ℕ, zero, suc, ◌+◌, ◌*◌, ◌/◌, ◌%◌, ◌^◌, ◌<◌, ◌≤◌, Bool, true, false, ◌&&◌, eqb, List, length, sym, refl, ap, ◌∙◌, add-zero, add_assoc, mod-lt, div-lt_iff_lt-mul, add_comm, suc-add, pow-suc, div-add-mod', zero-add, mul-one, arith, lit<, eqb-true}
use native.Mathlib.Nat.{add-div_left}
use borrow.Author.Tests.{eqb-false}
use lib.Arith.{digits_mod, digits_div}
use lib.Bits.{bit_and, bit_or, bit_xor, and_block, or_block, xor_block, and_lt, or_lt, xor_lt, and_le_r, shifted_half, shifted_even}
use lib.Count.{count_trailing_zeros, under, trailing_le}
use Rattle.json_bytes.specs.Reads.{byte_at, within}
use Rattle.json_bytes.specs.Eight.{packed_at, eight_at}
use Rattle.json_bytes.proofs.Laws.{both_left, both_right, run_more, run-stops}
use Rattle.json_bytes.proofs.Eight.{Bytes}
use Rattle.json_text.specs.Run.{is_graphic, run_end}
use Rattle.json_text.specs.Eight.{each_byte, odd_flag, odd_bytes, no_space_flag, no_space_bytes, first_byte}

-- ---- an operation that works on each byte apart
abbrev Small : (ℕ → ℕ) → Type 0
Small f = (b : ℕ) → b < 256 → f b < 256

abbrev Apart : (ℕ → ℕ → ℕ) → Type 0
Apart op = (a b r s : ℕ) → r < 256 → s < 256 → op (a * 256 + r) (b * 256 + s) ≡ op a b * 256 + op r s

module _ (op : ℕ → ℕ → ℕ) (none : op 0 0 ≡ 0) (apart : Apart op) (f g : ℕ → ℕ) (hf : Small f) (hg : Small g) where
  each-op : (n x : ℕ) → op (each_byte f n x) (each_byte g n x) ≡ each_byte (λ b. op (f b) (g b)) n x
  unfolding each_byte
  each-op zero x = none
  each-op (suc n) x =
      let l : x % 256 < 256 = mod-lt x (lit< tt) in
      apart (each_byte f n (x / 256)) (each_byte g n (x / 256)) (f (x % 256)) (g (x % 256)) (hf (x % 256) l) (hg (x % 256) l)
      ∙ ap (λ t. t * 256 + op (f (x % 256)) (g (x % 256))) (each-op n (x / 256))

-- what is the same of each byte
each_same : (f g : ℕ → ℕ) → ((b : ℕ) → b < 256 → f b ≡ g b) → (n x : ℕ) → each_byte f n x ≡ each_byte g n x
unfolding each_byte
each_same f g h zero x = refl
each_same f g h (suc n) x = rw (each_same f g h n (x / 256), h (x % 256) (mod-lt x (lit< tt)))

-- a number is all its bytes
each-own : (n x : ℕ) → x < 256 ^ n → each_byte (λ b. b) n x ≡ x
unfolding each_byte
each-own zero x l = omega arith
each-own (suc n) x l = rw (each-own n (x / 256) ((div-lt_iff_lt-mul (lit< tt)).1 (rw (pow-suc 256 n) at l))) (div-add-mod' x 256)

-- ---- a number that holds a function of each byte of x, and how it is made
module _ (x : ℕ) where
  record Each (f : ℕ → ℕ) (y : ℕ) : Type 0 where
    pub is : y ≡ each_byte f 8 x
    pub small : Small f

  -- the same in each
  same_byte : (k : ℕ) → k < 256 → Each (λ b. k) (k * 0x0101010101010101)
  unfolding each_byte
  same_byte k l = record { is = omega arith; small = λ b h. l }

  own-byte : x < 256 ^ 8 → Each (λ b. b) x
  own-byte l = record { is = sym (each-own 8 x l); small = λ b h. h }

  module _ (f g : ℕ → ℕ) {y z : ℕ} (p : Each f y) (q : Each g z) where
    each-with : (op : ℕ → ℕ → ℕ) → op 0 0 ≡ 0 → Apart op → Small (λ b. op (f b) (g b)) → Each (λ b. op (f b) (g b)) (op y z)
    each-with op none apart small = record { is = rw (p.is, q.is) (each-op op none apart f g p.small q.small 8 x); small = small }

    each_and : Each (λ b. bit_and (f b) (g b)) (bit_and y z)
    each_and = each-with bit_and refl (and_block 8) (λ b h. and_lt 8 (f b) (g b) (p.small b h) (q.small b h))

    each_or : Each (λ b. bit_or (f b) (g b)) (bit_or y z)
    each_or = each-with bit_or refl (or_block 8) (λ b h. or_lt 8 (f b) (g b) (p.small b h) (q.small b h))

    each_xor : Each (λ b. bit_xor (f b) (g b)) (bit_xor y z)
    each_xor = each-with bit_xor refl (xor_block 8) (λ b h. xor_lt 8 (f b) (g b) (p.small b h) (q.small b h))

    -- a sum that does not carry
    each-sum : Small (λ b. f b + g b) → Each (λ b. f b + g b) (y + z)
    each-sum small = each-with ◌+◌ refl (λ a b r s k l. omega arith) small

-- ---- the flags as they are computed, of one byte and of eight
low : ℕ → ℕ
low b = bit_and b 0x7F

flag : ℕ → ℕ
flag b =
    bit_and
    (bit_or (bit_or b (low b + 0x01)) (bit_xor (bit_and (bit_and (low b + 0x5F) (bit_xor (low b) 0x22 + 0x7F)) (bit_xor (low b) 0x5C + 0x7F)) 0x80))
    0x80

no_space : ℕ → ℕ
no_space b = bit_and (bit_or b (bit_xor (low b) 0x20 + 0x7F)) 0x80

-- a test that is computed of every number below a bound holds of each
unfoldable pub all_below : (ℕ → Bool) → ℕ → Bool
all_below f zero = true
all_below f (suc n) = f n && all_below f n

pub below : (f : ℕ → Bool) (n : ℕ) → all_below f n ≡ true → (b : ℕ) → b < n → f b ≡ true
unfolding all_below
below f zero e b l = absurd (omega arith)
below f (suc n) e b l = go (eqb b n) refl (below f n (both_right (f n) (all_below f n) e) b)
  where
    go : (t : Bool) → eqb b n ≡ t → (b < n → f b ≡ true) → f b ≡ true
    go true q rest = rw (eqb-true b n q) (both_left (f n) (all_below f n) e)
    go false q rest = rest (omega (arith, eqb-false b n q))

-- what is the same of each byte that there is
all_same : (f g : ℕ → ℕ) → all_below (λ b. eqb (f b) (g b)) 256 ≡ true → (n x : ℕ) → each_byte f n x ≡ each_byte g n x
all_same f g e = each_same f g (λ b l. eqb-true (f b) (g b) (below (λ b. eqb (f b) (g b)) 256 e b l))

flag-tells : (n x : ℕ) → each_byte flag n x ≡ each_byte odd_flag n x
unfolding flag low odd_flag is_graphic within all_below
flag-tells = all_same flag odd_flag refl

no-space-tells : (n x : ℕ) → each_byte no_space n x ≡ each_byte no_space_flag n x
unfolding no_space low no_space_flag all_below
no-space-tells = all_same no_space no_space_flag refl

low-bound : (b : ℕ) → low b < 128
unfolding low
low-bound b = omega (arith, and_le_r b 0x7F)

-- the sums of eight stay in their width
pub differs-bound : (x k : ℕ) → k < 128 → bit_xor (bit_and x 0x7F7F7F7F7F7F7F7F) (k * 0x0101010101010101) < 2 ^ 63
differs-bound x k l = xor_lt 63 (bit_and x 0x7F7F7F7F7F7F7F7F) (k * 0x0101010101010101) (omega (arith, and_le_r x 0x7F7F7F7F7F7F7F7F)) (omega arith)

module _ (x : ℕ) (l : x < 2 ^ 64) where
  abbrev y : ℕ
  y = bit_and x 0x7F7F7F7F7F7F7F7F

  low-each : Each x low y
  unfolding low
  low-each = each_and x (λ b. b) (λ b. 0x7F) (own-byte x l) (same_byte x 0x7F (lit< tt))

  plus : (k : ℕ) → k < 129 → Each x (λ b. low b + k) (y + k * 0x0101010101010101)
  plus k h = each-sum x low (λ b. k) low-each (same_byte x k (omega arith)) (λ b m. omega (arith, low-bound b))

  differs : (k : ℕ) → k < 128 → Each x (λ b. bit_xor (low b) k + 0x7F) (bit_xor y (k * 0x0101010101010101) + 0x7F7F7F7F7F7F7F7F)
  differs k h =
      each-sum x (λ b. bit_xor (low b) k) (λ b. 0x7F)
      (each_xor x low (λ b. k) low-each (same_byte x k (omega arith)))
      (same_byte x 0x7F (lit< tt))
      (λ b m. omega (arith, xor_lt 7 (low b) k (low-bound b) h))

  pub flags-told : bit_and (bit_or (bit_or x (y + 0x0101010101010101)) (bit_xor (bit_and (bit_and (y + 0x5F5F5F5F5F5F5F5F) (bit_xor y 0x2222222222222222 + 0x7F7F7F7F7F7F7F7F)) (bit_xor y 0x5C5C5C5C5C5C5C5C + 0x7F7F7F7F7F7F7F7F)) 0x8080808080808080)) 0x8080808080808080 ≡ odd_bytes x
  unfolding odd_bytes flag
  flags-told =
      (each_and x _ (λ b. 0x80)
      (each_or x _ _
      (each_or x (λ b. b) _ (own-byte x l) (plus 0x01 (lit< tt)))
      (each_xor x _ (λ b. 0x80)
      (each_and x _ _ (each_and x _ _ (plus 0x5F (lit< tt)) (differs 0x22 (lit< tt))) (differs 0x5C (lit< tt)))
      (same_byte x 0x80 (lit< tt))))
      (same_byte x 0x80 (lit< tt))
      ).is
      ∙ flag-tells 8 x

  pub no-spaces-told : bit_and (bit_or x (bit_xor y 0x2020202020202020 + 0x7F7F7F7F7F7F7F7F)) 0x8080808080808080 ≡ no_space_bytes x
  unfolding no_space_bytes no_space
  no-spaces-told =
      (each_and x _ (λ b. 0x80)
      (each_or x (λ b. b) _ (own-byte x l) (differs 0x20 (lit< tt)))
      (same_byte x 0x80 (lit< tt))
      ).is
      ∙ no-space-tells 8 x

-- ---- the first flag
-- zeros below a number are counted before its own
trailing-past : (k a m : ℕ) → count_trailing_zeros (m + k) (a * 2 ^ m) ≡ m + count_trailing_zeros k a
unfolding count_trailing_zeros
trailing-past k a zero = rw (zero-add k, mul-one a, zero-add (count_trailing_zeros k a))
trailing-past k a (suc m) = rw (suc-add m k, count_trailing_zeros, shifted_even a m, shifted_half a m, trailing-past k a m, suc-add m (count_trailing_zeros k a))

-- a byte that has no flag is passed
pub past-clear : (n x : ℕ) → count_trailing_zeros (suc n * 8) (x * 256 + 0) / 8 ≡ 1 + count_trailing_zeros (n * 8) x / 8
past-clear n x =
    let width : suc n * 8 ≡ 8 + n * 8 = omega arith in
    rw (width, add-zero (x * 256), trailing-past (n * 8) x 8, add-div_left (count_trailing_zeros (n * 8) x) {k = 8} (lit< tt)) (add_comm (count_trailing_zeros (n * 8) x / 8) 1)

-- and the count ends at one that has
pub at_flag : (n x : ℕ) → count_trailing_zeros (suc n * 8) (x * 256 + 128) / 8 ≡ 0
unfolding count_trailing_zeros
at_flag n x =
    let width : suc n * 8 ≡ 7 + suc (n * 8) = omega arith in
    let bit : x * 256 + 128 ≡ (x * 2 + 1) * 128 = omega arith in
    rw (width, bit, trailing-past (suc (n * 8)) (x * 2 + 1) 7, count_trailing_zeros, digits_mod x {m = 2} {r = 1} (lit< tt))

-- of a number that is not 0 there is one
trailing-less : (k x : ℕ) → x < 2 ^ k → (x ≡ 0 → ⊥) → count_trailing_zeros k x < k
unfolding count_trailing_zeros
trailing-less zero x l h = absurd (h (omega arith))
trailing-less (suc k) x l h = go (x % 2) refl (trailing-less k (x / 2) ((div-lt_iff_lt-mul (lit< tt)).1 (rw (pow-suc 2 k) at l)))
  where
    go : (d : ℕ) → x % 2 ≡ d → ((x / 2 ≡ 0 → ⊥) → count_trailing_zeros k (x / 2) < k) → under d (count_trailing_zeros k (x / 2)) < suc k
    go zero e rest = omega (arith, rest (λ z. h (omega (arith, z, e))))
    go (suc d) e rest = omega arith

first_some : (x : ℕ) → x < 2 ^ 64 → (x ≡ 0 → ⊥) → first_byte x < 8
unfolding first_byte
first_some x l h = omega (arith, trailing-less 64 x l h)

first-none : first_byte 0 ≡ 8
unfolding first_byte count_trailing_zeros
first-none = refl

-- ---- a run over some bytes of a list, by their flags
module _ (s : List ℕ) (fs : Bytes s) where
  abbrev flags : ℕ → ℕ → ℕ
  flags n i = each_byte odd_flag n (packed_at n s i)

  pub flags-next : (n i : ℕ) → flags (suc n) i ≡ flags n (i + 1) * 256 + odd_flag (byte_at s i)
  unfolding each_byte packed_at
  flags-next n i = rw (digits_div (packed_at n s (i + 1)) (fs i).fits, digits_mod (packed_at n s (i + 1)) (fs i).fits)

  module _ (n i : ℕ) where
    flags-clear : is_graphic (byte_at s i) ≡ true → flags (suc n) i ≡ flags n (i + 1) * 256 + 0
    unfolding odd_flag
    flags-clear q = rw (flags-next n i, q)

    flags-set : is_graphic (byte_at s i) ≡ false → flags (suc n) i ≡ flags n (i + 1) * 256 + 128
    unfolding odd_flag
    flags-set q = rw (flags-next n i, q)

  -- where the first flag of n bytes stands
  abbrev first : ℕ → ℕ → ℕ
  first n i = count_trailing_zeros (n * 8) (flags n i) / 8

  -- no flag among n bytes: the run goes on behind them
  run-passes : (n i : ℕ) → i + n ≤ length s → first n i ≡ n → run_end s i ≡ run_end s (i + n)
  unfolding run_end
  run-passes zero i l e = rw (add-zero i)
  run-passes (suc n) i l e = go (is_graphic (byte_at s i)) refl (run-passes n (i + 1) (omega arith))
    where
      go : (t : Bool) → is_graphic (byte_at s i) ≡ t → (first n (i + 1) ≡ n → run_end s (i + 1) ≡ run_end s (i + 1 + n)) → run_end s i ≡ run_end s (i + suc n)
      go true q rest =
          let next : i + 1 + n ≡ i + suc n = omega arith in
          let later : 1 + first n (i + 1) ≡ suc n = sym (past-clear n (flags n (i + 1))) ∙ rw (flags-clear n i q) at e in
          run_more is_graphic s i (omega arith) q ∙ rw next at (rest (omega (arith, later)))
      go false q rest = absurd (omega (arith, at_flag n (flags n (i + 1)), rw (flags-set n i q) at e))

  -- a flag among them: the run ends at the first
  run-meets : (n i : ℕ) → i + n ≤ length s → first n i < n → i + first n i ≡ run_end s i
  unfolding run_end
  run-meets zero i l h = absurd (omega arith)
  run-meets (suc n) i l h = go (is_graphic (byte_at s i)) refl (run-meets n (i + 1) (omega arith))
    where
      go : (t : Bool) → is_graphic (byte_at s i) ≡ t → (first n (i + 1) < n → i + 1 + first n (i + 1) ≡ run_end s (i + 1)) → i + first (suc n) i ≡ run_end s i
      go true q rest =
          let later : first (suc n) i ≡ 1 + first n (i + 1) = rw (flags-clear n i q) (past-clear n (flags n (i + 1))) in
          rw (later, ← add_assoc i 1 (first n (i + 1)))
          (rest (omega (arith, later, h)) ∙ sym (run_more is_graphic s i (omega arith) q))
      go false q rest = rw (flags-set n i q, at_flag n (flags n (i + 1)), add-zero i) (sym (run-stops is_graphic s i (omega arith) q))

  -- ---- as the code has them: of flags of which the first is right
  module _ (j odd : ℕ) (has : j + 8 ≤ length s) (right : first_byte odd ≡ first_byte (odd_bytes (eight_at s j))) where
    told : first_byte odd ≡ first 8 j
    unfolding odd_bytes eight_at first_byte
    told = right

    pub eight-pass : odd ≡ 0 → run_end s j ≡ run_end s (j + 8)
    eight-pass e = run-passes 8 j has (sym told ∙ ap first_byte e ∙ first-none)

    pub eight-meet : odd < 2 ^ 64 → (odd ≡ 0 → ⊥) → (r : ℕ) → r ≡ first_byte odd → j + r ≡ run_end s j
    eight-meet l h r is = rw (is, told) (run-meets 8 j has (omega (arith, told, first_some odd l h)))

pub first-bound : (x : ℕ) → first_byte x ≤ 8
unfolding first_byte
first-bound x = omega (arith, trailing_le 64 x)
