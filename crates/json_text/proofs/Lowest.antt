-- A number's bytes up to the first that is no graphic one: what bit operations make of them, and sums and differences that
-- carry or borrow out of no graphic byte. Flags that are right so far have the right one first.
-- Assumes nothing.
use Rattle.std.proofs.Common.{◌≡◌, ℕ, zero, suc, ◌+◌, ◌*◌, ◌/◌, ◌%◌, ◌^◌, ◌<◌, ◌≤◌, Bool, true, false, cond, eqb, leb, sym, refl, ap, ◌∙◌, mod-lt, pow-suc, arith, lit<, eqb-true, leb-true}
use native.Mathlib.Nat.{one-le-pow}
use lib.Arith.{digits_mod, digits_div, mod-mul}
use lib.Bits.{bit_and, bit_or, bit_xor, and_mod, or_mod, xor_mod, and_shr, or_shr, xor_shr}
use lib.Count.{count_trailing_zeros}
use Rattle.json_bytes.specs.Reads.{within}
use Rattle.json_text.specs.Run.{is_graphic}
use Rattle.json_text.specs.Eight.{each_byte, odd_flag, odd_bytes, first_byte}
use Rattle.json_text.proofs.Flags.{all_below, below, past-clear, at_flag}

-- of n bytes of x, y holds f of each up to the first that is no graphic one
UpTo : (ℕ → ℕ) → ℕ → ℕ → ℕ → Type 0
UpTo f zero x y = Unit {0}
UpTo f (suc n) x y = (y % 256 ≡ f (x % 256)) × (is_graphic (x % 256) ≡ true → UpTo f n (x / 256) (y / 256))

-- ---- how such numbers are made
own : (n x : ℕ) → UpTo (λ b. b) n x x
unfolding UpTo
own zero x = tt
own (suc n) x = (refl, λ h. own n (x / 256))

-- the same byte n times
rep : ℕ → ℕ → ℕ
rep zero k = 0
rep (suc n) k = rep n k * 256 + k

module _ (k : ℕ) (l : k < 256) where
  same : (n x : ℕ) → UpTo (λ b. k) n x (rep n k)
  unfolding UpTo rep
  same zero x = tt
  same (suc n) x = (digits_mod (rep n k) l, λ h. rw (digits_div (rep n k) l) (same n (x / 256)))

module _ (op : ℕ → ℕ → ℕ) (lower : (a b : ℕ) → op a b % 256 ≡ op (a % 256) (b % 256)) (upper : (a b : ℕ) → op a b / 256 ≡ op (a / 256) (b / 256)) (f g : ℕ → ℕ) where
  with-op : (n x y z : ℕ) → UpTo f n x y → UpTo g n x z → UpTo (λ b. op (f b) (g b)) n x (op y z)
  unfolding UpTo
  with-op zero x y z p q = tt
  with-op (suc n) x y z p q =
      (rw (lower y z, p.0, q.0), λ h. rw (upper y z) (with-op n (x / 256) (y / 256) (z / 256) (p.1 h) (q.1 h)))

-- a sum of n + 1 bytes: its lowest byte is that of the lowest two, and those above are the sum of those above and the carry
sum-parts : (n p q a : ℕ) → a ≡ (p + q) % 256 ^ suc n → (a % 256 ≡ (p + q) % 256) × (a / 256 ≡ (p + q) / 256 % 256 ^ n)
sum-parts n p q a e =
    let l : (p + q) % 256 < 256 = mod-lt (p + q) (lit< tt) in
    let parts : a ≡ (p + q) / 256 % 256 ^ n * 256 + (p + q) % 256 = e ∙ rw (pow-suc 256 n) (mod-mul (p + q) {m = 256 ^ n} {c = 256} (one-le-pow n 256 (lit< tt)) (lit< tt)) in
    (rw parts (digits_mod ((p + q) / 256 % 256 ^ n) l), rw parts (digits_div ((p + q) / 256 % 256 ^ n) l))

-- k added to each byte, or taken away, where c is what k lacks of 256: no carry and no borrow comes out of a graphic byte
module _ (k : ℕ) (f : ℕ → ℕ) where
  with-sum : ((b : ℕ) → b < 256 → is_graphic b ≡ true → f b + k < 256) → (n x p a : ℕ) → UpTo f n x p → a ≡ (p + rep n k) % 256 ^ n → UpTo (λ b. (f b + k) % 256) n x a
  unfolding UpTo rep
  with-sum fits zero x p a u e = tt
  with-sum fits (suc n) x p a u e =
      let parts = sum-parts n p (rep n k * 256 + k) a e in (
        omega (arith, parts.0, u.0),
        λ h.
            let none : (p + (rep n k * 256 + k)) / 256 ≡ p / 256 + rep n k = omega (arith, u.0, fits (x % 256) (mod-lt x (lit< tt)) h) in
            with-sum fits n (x / 256) (p / 256) (a / 256) (u.1 h) (rw none at parts.1),
      )

  with-difference : (c : ℕ) → k + c ≡ 256 → ((b : ℕ) → b < 256 → is_graphic b ≡ true → k ≤ f b) → (n x p a : ℕ) → UpTo f n x a → a ≡ (p + rep n k) % 256 ^ n → UpTo (λ b. (f b + c) % 256) n x p
  unfolding UpTo rep
  with-difference c whole fits zero x p a u e = tt
  with-difference c whole fits (suc n) x p a u e =
      let parts = sum-parts n p (rep n k * 256 + k) a e in (
        omega (arith, whole, parts.0, u.0),
        λ h.
            let none : (p + (rep n k * 256 + k)) / 256 ≡ p / 256 + rep n k = omega (arith, whole, parts.0, u.0, fits (x % 256) (mod-lt x (lit< tt)) h) in
            with-difference c whole fits n (x / 256) (p / 256) (a / 256) (u.1 h) (rw none at parts.1),
      )

-- ---- the first flag
up_same : (f g : ℕ → ℕ) → ((b : ℕ) → b < 256 → f b ≡ g b) → (n x y : ℕ) → UpTo f n x y → UpTo g n x y
unfolding UpTo
up_same f g same zero x y u = tt
up_same f g same (suc n) x y u = (u.0 ∙ same (x % 256) (mod-lt x (lit< tt)), λ h. up_same f g same n (x / 256) (y / 256) (u.1 h))

first-right : (n x y : ℕ) → UpTo odd_flag n x y → count_trailing_zeros (n * 8) y / 8 ≡ count_trailing_zeros (n * 8) (each_byte odd_flag n x) / 8
unfolding UpTo each_byte odd_flag count_trailing_zeros
first-right zero x y u = refl
first-right (suc n) x y u = go (is_graphic (x % 256)) u.0 (λ h. first-right n (x / 256) (y / 256) (u.1 h))
  where
    above : ℕ
    above = each_byte odd_flag n (x / 256)

    go : (t : Bool) → y % 256 ≡ cond t 0 128 → (t ≡ true → count_trailing_zeros (n * 8) (y / 256) / 8 ≡ count_trailing_zeros (n * 8) above / 8) → count_trailing_zeros (suc n * 8) y / 8 ≡ count_trailing_zeros (suc n * 8) (above * 256 + cond t 0 128) / 8
    go true e rest =
        let cut : y ≡ y / 256 * 256 + 0 = omega (arith, e) in
        ap (λ z. count_trailing_zeros (suc n * 8) z / 8) cut ∙ past-clear n (y / 256) ∙ ap (λ z. 1 + z) (rest refl) ∙ sym (past-clear n above)
    go false e rest =
        let cut : y ≡ y / 256 * 256 + 128 = omega (arith, e) in
        ap (λ z. count_trailing_zeros (suc n * 8) z / 8) cut ∙ at_flag n (y / 256) ∙ sym (at_flag n above)

-- ---- the flags as they are computed, of one byte and of eight
flag : ℕ → ℕ
flag b =
    bit_and
    (bit_or (bit_or (bit_or (bit_or b ((b + 0xDF) % 256)) ((b + 0x01) % 256)) ((bit_xor b 0x22 + 0xFF) % 256)) ((bit_xor b 0x5C + 0xFF) % 256))
    0x80

flag-tells : (b : ℕ) → b < 256 → flag b ≡ odd_flag b
unfolding flag odd_flag is_graphic within all_below
flag-tells b l = eqb-true (flag b) (odd_flag b) (below (λ b. eqb (flag b) (odd_flag b)) 256 refl b l)

-- a test that is computed of every graphic byte
graphic : (f : ℕ → Bool) → all_below (λ b. cond (is_graphic b) (f b) true) 256 ≡ true → (b : ℕ) → b < 256 → is_graphic b ≡ true → f b ≡ true
graphic f e b l q = rw q at (below (λ b. cond (is_graphic b) (f b) true) 256 e b l)

module _ (x : ℕ) where
  and-each : (f g : ℕ → ℕ) (y z : ℕ) → UpTo f 8 x y → UpTo g 8 x z → UpTo (λ b. bit_and (f b) (g b)) 8 x (bit_and y z)
  and-each f g = with-op bit_and (λ a b. and_mod a b 8) (λ a b. and_shr a b 8) f g 8 x

  or-each : (f g : ℕ → ℕ) (y z : ℕ) → UpTo f 8 x y → UpTo g 8 x z → UpTo (λ b. bit_or (f b) (g b)) 8 x (bit_or y z)
  or-each f g = with-op bit_or (λ a b. or_mod a b 8) (λ a b. or_shr a b 8) f g 8 x

  low-each : (low : ℕ) → (low + 0x2121212121212121) % 2 ^ 64 ≡ x → UpTo (λ b. (b + 0xDF) % 256) 8 x low
  unfolding rep all_below is_graphic within
  low-each low e = with-difference 0x21 (λ b. b) 0xDF refl (λ b l q. leb-true 0x21 b (graphic (leb 0x21) refl b l q)) 8 x low x (own 8 x) (sym e)

  high-each : (high : ℕ) → high ≡ (x + 0x0101010101010101) % 2 ^ 64 → UpTo (λ b. (b + 0x01) % 256) 8 x high
  unfolding rep all_below is_graphic within
  high-each high e = with-sum 0x01 (λ b. b) (λ b l q. leb-true (suc (b + 1)) 256 (graphic (λ b. leb (suc (b + 1)) 256) refl b l q)) 8 x x high (own 8 x) e

  -- no graphic byte is k
  unlike : (k : ℕ) → k < 256 → all_below (λ b. cond (is_graphic b) (leb 1 (bit_xor b k)) true) 256 ≡ true → (r : ℕ) → (r + 0x0101010101010101) % 2 ^ 64 ≡ bit_xor x (rep 8 k) → UpTo (λ b. (bit_xor b k + 0xFF) % 256) 8 x r
  unfolding rep
  unlike k m all r e =
      with-difference 0x01 (λ b. bit_xor b k) 0xFF refl (λ b l q. leb-true 1 (bit_xor b k) (graphic (λ b. leb 1 (bit_xor b k)) all b l q)) 8 x r (bit_xor x (rep 8 k))
      (with-op bit_xor (λ a b. xor_mod a b 8) (λ a b. xor_shr a b 8) (λ b. b) (λ b. k) 8 x x (rep 8 k) (own 8 x) (same k m 8 x))
      (sym e)

  pub lowest-told : (low high quote slash : ℕ) → (low + 0x2121212121212121) % 2 ^ 64 ≡ x → high ≡ (x + 0x0101010101010101) % 2 ^ 64 → (quote + 0x0101010101010101) % 2 ^ 64 ≡ bit_xor x 0x2222222222222222 → (slash + 0x0101010101010101) % 2 ^ 64 ≡ bit_xor x 0x5C5C5C5C5C5C5C5C → first_byte (bit_and (bit_or (bit_or (bit_or (bit_or x low) high) quote) slash) 0x8080808080808080) ≡ first_byte (odd_bytes x)
  unfolding rep all_below is_graphic within flag first_byte odd_bytes
  lowest-told low high quote slash el eh eq es =
      first-right 8 x _
      (up_same flag odd_flag flag-tells 8 x _
      (and-each _ (λ b. 0x80) _ _
      (or-each _ _ _ _
      (or-each _ _ _ _
      (or-each _ _ _ _ (or-each (λ b. b) _ _ _ (own 8 x) (low-each low el)) (high-each high eh))
      (unlike 0x22 (lit< tt) refl quote eq))
      (unlike 0x5C (lit< tt) refl slash es))
      (same 0x80 (lit< tt) 8 x)))
