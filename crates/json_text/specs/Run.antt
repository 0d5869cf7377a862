-- For the code's sake alone: a run of bytes that are characters by themselves and break no rule of any type.
use Rattle.std.specs.Prelude.{◌≡◌, ℕ, ◌+◌, ◌<◌, ◌≤◌, Bool, true, false, cond, ◌&&◌, ◌||◌, List, drop, ◌==◌, nat_lt}
use Rattle.json_bytes.specs.Reads.{byte_at, within, leading}

-- U+0021 to U+007E but the quote and the backslash
unfoldable pub is_graphic : ℕ → Bool
is_graphic b = cond (b == 34) false (cond (b == 92) false (within 0x21 0x7E b))

-- such bytes stand from i up to j
pub record Run (s : List ℕ) (i j : ℕ) : Type 0 where
  pub onwards : i ≤ j
  pub graphic : (k : ℕ) → i ≤ k → k < j → is_graphic (byte_at s k) ≡ true

-- the first place from i on that holds no such byte
unfoldable pub run_end : List ℕ → ℕ → ℕ
run_end s i = i + leading is_graphic (drop i s)

-- the place of the closing quote of a string that has such bytes alone, and has one; 0, which no such place is, for any other
unfoldable pub plain_end : List ℕ → ℕ → ℕ
plain_end s at =
    cond (byte_at s at == 34)
    (cond (nat_lt (at + 1) (run_end s (at + 1))) (cond (byte_at s (run_end s (at + 1)) == 34) (run_end s (at + 1)) 0) 0)
    0

-- behind one of them there is no edge
unfoldable pub edge_behind : Bool → ℕ → ℕ → Bool
edge_behind edge i j = cond (nat_lt i j) false edge

-- one of them at k, or a space right before one
unfoldable pub in_words : List ℕ → ℕ → Bool
in_words s k = is_graphic (byte_at s k) || (byte_at s k == 32 && is_graphic (byte_at s (k + 1)))

-- words of them from i up to j, and single spaces between the words: no space comes first or last, and no word goes on at j
pub record Words (s : List ℕ) (i j : ℕ) : Type 0 where
  pub onwards : i ≤ j
  pub each : (k : ℕ) → i ≤ k → k < j → in_words s k ≡ true
  pub begins : i < j → is_graphic (byte_at s i) ≡ true
  pub ends : is_graphic (byte_at s j) ≡ false
