-- Bytes as one number: how four and eight are read, and that the number tells them.
-- Assumes nothing.
use Prim.Native.Nat.{ℕ, zero, suc, ◌+◌, ◌*◌, ◌<◌}
use mathlib.Core.Path.{◌≡◌}
use mathlib.Core.List.{List}
use native.Mathlib.Nat.{add-zero}
use native.Mathlib.Omega.{arith}
use mir.Syntax.{w8}
use mir.Val.{Fits}
use lib.ListN.{get_or}
use Rattle.json_bytes.specs.Reads.{byte_at}
use Rattle.json_bytes.specs.Eight.{packed_at, eight_at}

-- as the elements of a slice of bytes are known
abbrev pub Bytes : List ℕ → Type 0
Bytes s = (j : ℕ) → Fits w8 (get_or s j 0)

module _ (s : List ℕ) (i : ℕ) where
  -- ---- as they are read
  pub four-read : {a b c d : ℕ} → (a ≡ byte_at s i) × (a < 256) → (b ≡ byte_at s (i + 1)) × (b < 256) → (c ≡ byte_at s (i + 2)) × (c < 256) → (d ≡ byte_at s (i + 3)) × (d < 256) → (a + b * 256 + c * 65536 + d * 16777216 ≡ packed_at 4 s i) × (a + b * 256 + c * 65536 + d * 16777216 < 4294967296)
  unfolding packed_at
  four-read e f g h =
      let two : i + 1 + 1 ≡ i + 2 = omega arith in
      let three : i + 2 + 1 ≡ i + 3 = omega arith in
      (rw (two, three, e.0, f.0, g.0, h.0) (omega arith), omega (arith, e.1, f.1, g.1, h.1))

  pub eight-read : {a b : ℕ} → a ≡ packed_at 4 s i → b ≡ packed_at 4 s (i + 4) → a + b * 4294967296 ≡ eight_at s i
  unfolding packed_at eight_at
  eight-read e f =
      let four : i + 1 + 1 + 1 + 1 ≡ i + 4 = omega arith in
      rw (e, f, four) (omega arith)

-- ---- the number tells the bytes
one_of : (p q b d : ℕ) → b < 256 → d < 256 → p * 256 + b ≡ q * 256 + d → (p ≡ q) × (b ≡ d)
one_of p q b d hb hd e = (omega arith, omega arith)

module _ (a b : List ℕ) (fa : Bytes a) (fb : Bytes b) where
  pub packed_alike : (n i : ℕ) → packed_at n a i ≡ packed_at n b i → (k : ℕ) → k < n → byte_at a (i + k) ≡ byte_at b (i + k)
  unfolding packed_at
  packed_alike zero i e k l = absurd (omega arith)
  packed_alike (suc n) i e zero l = rw (add-zero i) (one_of (packed_at n a (i + 1)) (packed_at n b (i + 1)) (byte_at a i) (byte_at b i) (fa i).fits (fb i).fits e).1
  packed_alike (suc n) i e (suc k) l =
      let next : i + 1 + k ≡ i + suc k = omega arith in
      rw next at (packed_alike n (i + 1) (one_of (packed_at n a (i + 1)) (packed_at n b (i + 1)) (byte_at a i) (byte_at b i) (fa i).fits (fb i).fits e).0 k (omega arith))

  pub eight-alike : (i : ℕ) → eight_at a i ≡ eight_at b i → (k : ℕ) → k < 8 → byte_at a (i + k) ≡ byte_at b (i + k)
  unfolding eight_at
  eight-alike i e = packed_alike 8 i e
