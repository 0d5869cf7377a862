-- The bytes of a number that stop words, by their flags: how the flags are made of those of each byte, and what the place
-- of the first says of the bytes of a list.
-- Assumes nothing.
use Rattle.std.proofs.Common.{◌≡◌, ℕ, zero, suc, ◌+◌, ◌*◌, ◌/◌, ◌%◌, ◌<◌, ◌≤◌, Bool, true, false, cond, ◌&&◌, ◌||◌, eqb, List, sym, refl, ap, ◌∙◌, add-zero, mod-lt, div-add-mod', arith, lit<, eqb-true}
use borrow.Author.Tests.{eqb-false}
use lib.Arith.{digits_mod, digits_div}
use lib.Bits.{bit_and, bit_or, and_block, or_block, or_lt}
use lib.Count.{count_trailing_zeros}
use Rattle.json_bytes.specs.Reads.{byte_at}
use Rattle.json_bytes.specs.Eight.{packed_at, eight_at}
use Rattle.json_bytes.proofs.Laws.{either}
use Rattle.json_bytes.proofs.Eight.{Bytes}
use Rattle.json_text.specs.Run.{is_graphic, in_words}
use Rattle.json_text.specs.Eight.{each_byte, odd_flag, odd_bytes, no_space_flag, no_space_bytes, stop_flag, stops_in, stop_bytes, first_byte}
use Rattle.json_text.proofs.Flags.{past-clear, at_flag}

-- ---- how they are made
flag_small : (t : Bool) → cond t 0 128 < 256
flag_small t = either (λ f. f < 256) t 0 128 (lit< tt) (lit< tt)

-- the flag of the byte behind: where there is none, as of a graphic one
record Behind (n x : ℕ) : Type 0 where
  pub known : Bool
  pub flag : each_byte odd_flag n x % 256 ≡ cond known 0 128
  pub is : 0 < n → known ≡ is_graphic (x % 256)

behind : (n x : ℕ) → Behind n x
unfolding each_byte odd_flag
behind zero x = record { known = true; flag = refl; is = λ l. absurd (omega arith) }
behind (suc n) x =
    record {
      known = is_graphic (x % 256);
      flag = digits_mod (each_byte odd_flag n (x / 256)) (flag_small (is_graphic (x % 256)));
      is = λ l. refl;
    }

-- of one byte
one-stop : (t u v : Bool) → bit_and (cond t 0 128) (bit_or (cond v 0 128) (cond u 0 128)) ≡ cond t 0 (cond u (cond v 0 128) 128)
one-stop true true true = refl
one-stop true true false = refl
one-stop true false true = refl
one-stop true false false = refl
one-stop false true true = refl
one-stop false true false = refl
one-stop false false true = refl
one-stop false false false = refl

-- the lowest byte apart from those above it
stop-apart : (a n f g : ℕ) → f < 256 → g < 256 → bit_and (a * 256 + f) (bit_or ((a * 256 + f) / 256) (n * 256 + g)) ≡ bit_and a (bit_or (a / 256) n) * 256 + bit_and f (bit_or (a % 256) g)
stop-apart a n f g hf hg =
    let l : a % 256 < 256 = mod-lt a (lit< tt) in
    let over : bit_or a (n * 256 + g) ≡ bit_or (a / 256) n * 256 + bit_or (a % 256) g = ap (λ t. bit_or t (n * 256 + g)) (sym (div-add-mod' a 256)) ∙ or_block 8 (a / 256) n (a % 256) g l hg in
    rw (digits_div a hf, over) (and_block 8 a (bit_or (a / 256) n) f (bit_or (a % 256) g) hf (or_lt 8 (a % 256) g l hg))

stops-of : (n x : ℕ) → bit_and (each_byte odd_flag n x) (bit_or (each_byte odd_flag n x / 256) (each_byte no_space_flag n x)) ≡ stops_in n x
unfolding each_byte odd_flag no_space_flag stops_in stop_flag
stops-of zero x = refl
stops-of (suc n) x =
    let graphic = is_graphic (x % 256) in
    let space = eqb (x % 256) 32 in
    stop-apart (each_byte odd_flag n (x / 256)) (each_byte no_space_flag n (x / 256)) (cond graphic 0 128) (cond space 0 128) (flag_small graphic) (flag_small space)
    ∙ rw (stops-of n (x / 256), (behind n (x / 256)).flag, one-stop graphic space (behind n (x / 256)).known)

pub stops-told : (x odd other : ℕ) → odd ≡ odd_bytes x → other ≡ no_space_bytes x → bit_and odd (bit_or (odd / 256) other) ≡ stop_bytes x
unfolding odd_bytes no_space_bytes stop_bytes
stops-told x odd other e f = rw (e, f) (stops-of 8 x)

-- ---- what the first of them says
-- a flag is 0 or 128, told by three tests
by_flag : (P : ℕ → Type 0) (t u v : Bool) → ((t || (u && v)) ≡ true → P 0) → (t ≡ false → P 128) → P (cond t 0 (cond u (cond v 0 128) 128))
by_flag P true u v f g = f refl
by_flag P false true true f g = f refl
by_flag P false true false f g = g refl
by_flag P false false v f g = g refl

module _ (s : List ℕ) where
  -- of the n bytes from i on, whose flags are x, the first r stand in words, but for the last of the n, behind which nothing is
  -- known; and where there is a flag, they end there
  pub record Stop (n i x r : ℕ) : Type 0 where
    pub before : (k : ℕ) → i ≤ k → k < i + r → k + 1 < i + n → in_words s k ≡ true
    pub at : (x ≡ 0 → ⊥) → (r < n) × (is_graphic (byte_at s (i + r)) ≡ false)

  -- one byte more
  stop-later : (n i x r : ℕ) → Stop n (i + 1) x r → (0 < n → in_words s i ≡ true) → Stop (suc n) i (x * 256 + 0) (1 + r)
  stop-later n i x r rest here =
      let next : i + 1 + r ≡ i + (1 + r) = omega arith in
      record {
        before = λ k a l m. go k a l m (eqb k i) refl;
        at = λ h. (omega (arith, (rest.at (λ e. h (omega (arith, e)))).0), rw next at (rest.at (λ e. h (omega (arith, e)))).1);
      }
    where
      go : (k : ℕ) → i ≤ k → k < i + (1 + r) → k + 1 < i + suc n → (t : Bool) → eqb k i ≡ t → in_words s k ≡ true
      go k a l m true e = rw (eqb-true k i e) (here (omega (arith, eqb-true k i e)))
      go k a l m false e = rest.before k (omega (arith, eqb-false k i e)) (omega arith) (omega arith)

  module _ (fs : Bytes s) where
    abbrev stops : ℕ → ℕ → ℕ
    stops n i = stops_in n (packed_at n s i)

    packed-first : (n i : ℕ) → 0 < n → packed_at n s i % 256 ≡ byte_at s i
    unfolding packed_at
    packed-first zero i l = absurd (omega arith)
    packed-first (suc n) i l = digits_mod (packed_at n s (i + 1)) (fs i).fits

    module _ (n i : ℕ) where
      abbrev next : Behind n (packed_at n s (i + 1))
      next = behind n (packed_at n s (i + 1))

      stops-next : stops (suc n) i ≡ stops n (i + 1) * 256 + cond (is_graphic (byte_at s i)) 0 (cond (eqb (byte_at s i) 32) (cond next.known 0 128) 128)
      unfolding stops_in stop_flag packed_at
      stops-next = rw (digits_div (packed_at n s (i + 1)) (fs i).fits, digits_mod (packed_at n s (i + 1)) (fs i).fits, next.flag)

      words-here : (is_graphic (byte_at s i) || (eqb (byte_at s i) 32 && next.known)) ≡ true → 0 < n → in_words s i ≡ true
      unfolding in_words
      words-here e l = rw (next.is l, packed-first n (i + 1) l) at e

    stop-of : (n i : ℕ) → Stop n i (stops n i) (count_trailing_zeros (n * 8) (stops n i) / 8)
    unfolding stops_in
    stop-of zero i = record { before = λ k a l m. absurd (omega arith); at = λ h. absurd (h refl) }
    stop-of (suc n) i =
        rw (stops-next n i)
        (by_flag
        (λ f. Stop (suc n) i (stops n (i + 1) * 256 + f) (count_trailing_zeros (suc n * 8) (stops n (i + 1) * 256 + f) / 8))
        (is_graphic (byte_at s i))
        (eqb (byte_at s i) 32)
        (next n i).known
        (λ e. rw (past-clear n (stops n (i + 1))) (stop-later n i (stops n (i + 1)) _ (stop-of n (i + 1)) (words-here n i e)))
        (λ e. rw (at_flag n (stops n (i + 1))) (record { before = λ k a l m. absurd (omega arith); at = λ h. (omega arith, rw (add-zero i) e) })))

    -- as the code has them
    pub eight-stop : (j stop r : ℕ) → stop ≡ stop_bytes (eight_at s j) → r ≡ first_byte stop → Stop 8 j stop r
    unfolding stop_bytes eight_at first_byte
    eight-stop j stop r are is = rw (is, are) (stop-of 8 j)
