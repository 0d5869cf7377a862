-- What a surrogate pair is made of, and an escape whose digits begin with two zeros.
-- Assumes nothing.
use Rattle.std.specs.Prelude.{Ok}
use Prim.Native.Nat.{ℕ, ◌+◌, ◌*◌, ◌<◌}
use mathlib.Core.Path.{◌≡◌, ap}
use mathlib.Core.Bool.{true}
use mathlib.Core.List.{List}
use native.Mathlib.Omega.{arith}
use borrow.Author.Tests.{lt-ltb, lt-leb}
use Rattle.json_bytes.specs.Reads.{byte_at, within}
use Rattle.json_bytes.proofs.Laws.{both_left, both_right}
use Rattle.json_chars.specs.Step.{hex_digit, digit_at, unit_at, is_pair, surrogates_joined}
use Rattle.json_chars.specs.declared.Step.TheVariants.{Char}

module _ (high low : ℕ) (e : is_pair high low ≡ true) where
  pub pair-high : within 0xD800 0xDBFF high ≡ true
  unfolding is_pair
  pair-high = both_left (within 0xD800 0xDBFF high) (within 0xDC00 0xDFFF low) e

  pub pair-low : within 0xDC00 0xDFFF low ≡ true
  unfolding is_pair
  pair-low = both_right (within 0xD800 0xDBFF high) (within 0xDC00 0xDFFF low) e

zero-digit : (s : List ℕ) (i b : ℕ) → b ≡ byte_at s i → b ≡ 48 → digit_at s i ≡ 0
unfolding digit_at hex_digit within
zero-digit s i b is e = rw (← is, e)

module _ (s : List ℕ) (i : ℕ) where
  -- two zeros and two digits more are their number
  pub low-unit : (b c x y : ℕ) → b ≡ byte_at s (i + 2) → b ≡ 48 → c ≡ byte_at s (i + 3) → c ≡ 48 → x ≡ digit_at s (i + 4) → x < 16 → y ≡ digit_at s (i + 5) → y < 16 → unit_at s (i + 2) ≡ Ok (x * 16 + y)
  unfolding unit_at
  low-unit b c x y is_b e is_c f is_x l is_y m =
      let p : i + 2 + 1 ≡ i + 3 = omega arith in
      let q : i + 2 + 2 ≡ i + 4 = omega arith in
      let r : i + 2 + 3 ≡ i + 5 = omega arith in
      rw (p, q, r, zero-digit s (i + 2) b is_b e, zero-digit s (i + 3) c is_c f, ← is_x, ← is_y, lt-ltb x 16 l, lt-ltb y 16 m) (ap Ok (omega arith))

  -- such a number is no surrogate
  pub low-joined : (u : ℕ) → u < 256 → unit_at s (i + 2) ≡ Ok u → surrogates_joined s i (unit_at s (i + 2)) ≡ Char u (i + 6)
  unfolding surrogates_joined is_pair within
  low-joined u l e = rw (e, surrogates_joined, lt-leb 0xD800 u (omega arith))
