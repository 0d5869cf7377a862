-- An escape of four digits, two zeros first, that stands for a character from U+0030 to U+007E: the step over it.
-- Assumes nothing.
use Rattle.std.proofs.Common.{◌≡◌, ℕ, ◌+◌, ◌-◌, ◌*◌, ◌<◌, ◌≤◌, true, not, eqb, List, length, get_or, take, drop, sym, refl, add-zero, arith, le-leb}
use Rattle.std.proofs.lemmas.List.{get_or-drop, take_rest}
use borrow.Author.Tests.{lt-leb, eqb-false, not-true}
use Rattle.json_bytes.specs.Reads.{byte_at, within}
use Rattle.json_bytes.proofs.Laws.{within-from, within-to}
use Rattle.json_chars.specs.Step.{hex_digit, digit_at, escape_at, step_at}
use Rattle.json_chars.specs.declared.Step.TheVariants.{Char}
use Rattle.json_chars.proofs.Laws.{low-unit, low-joined}
use Rattle.json_text.specs.Escape.{PlainEscape}

-- ---- the value of a digit, by its byte
module _ (b : ℕ) where
  ten-digit : 48 ≤ b → b ≤ 57 → hex_digit b ≡ b - 48
  unfolding hex_digit within
  ten-digit l h = rw (le-leb 48 b l, le-leb b 57 h)

  small-digit : 97 ≤ b → b ≤ 102 → hex_digit b ≡ b - 87
  unfolding hex_digit within
  small-digit l h =
      rw (le-leb 48 b (omega arith), lt-leb b 57 (omega arith), le-leb 65 b (omega arith), lt-leb b 70 (omega arith), le-leb 97 b l, le-leb b 102 h)

-- ---- all of such an escape but its last digit
pub record Begun (s : List ℕ) (j : ℕ) : Type 0 where
  pub slash : byte_at s j ≡ 92
  pub letter : byte_at s (j + 1) ≡ 117
  pub first : byte_at s (j + 2) ≡ 48
  pub second : byte_at s (j + 3) ≡ 48
  pub third : within 51 55 (byte_at s (j + 4)) ≡ true

-- as it is tested, in what stands from j on
pub byte_behind : (s : List ℕ) (j k : ℕ) → get_or (take (length s - j) (drop j s)) k 0 ≡ byte_at s (j + k)
byte_behind s j k = rw (take_rest s j) (get_or-drop j s k 0)

pub begun-in : (s : List ℕ) (j : ℕ) (r : List ℕ) → r ≡ take (length s - j) (drop j s) → get_or r 0 0 ≡ 92 → get_or r 1 0 ≡ 117 → get_or r 2 0 ≡ 48 → get_or r 3 0 ≡ 48 → within 51 55 (get_or r 4 0) ≡ true → Begun s j
begun-in s j r is a b d e f =
    record {
      slash = rw (← add-zero j, ← byte_behind s j 0, ← is) a;
      letter = rw (← byte_behind s j 1, ← is) b;
      first = rw (← byte_behind s j 2, ← is) d;
      second = rw (← byte_behind s j 3, ← is) e;
      third = rw (← byte_behind s j 4, ← is) f;
    }

module _ (s : List ℕ) (j : ℕ) (begun : Begun s j) where
  abbrev third : ℕ
  third = byte_at s (j + 4)

  abbrev last : ℕ
  last = byte_at s (j + 5)

  abbrev third-from : 51 ≤ third
  third-from = within-from 51 55 third begun.third

  abbrev third-to : third ≤ 55
  third-to = within-to 51 55 third begun.third

  escape-step : (x y : ℕ) → hex_digit third ≡ x → x < 16 → hex_digit last ≡ y → y < 16 → step_at s j ≡ Char (x * 16 + y) (j + 6)
  unfolding step_at escape_at digit_at
  escape-step x y is_x l is_y m =
      rw (begun.slash, begun.letter)
      (low-joined s j (x * 16 + y) (omega arith) (low-unit s j 48 48 x y (sym begun.first) refl (sym begun.second) refl (sym is_x) l (sym is_y) m))

  -- its last digit is y
  plain_by : (y : ℕ) → hex_digit last ≡ y → y < 16 → (third - 48) * 16 + y ≤ 0x7E → PlainEscape s j
  unfolding within
  plain_by y is_y m to =
      record {
        code = (third - 48) * 16 + y;
        step = escape-step (third - 48) y (ten-digit third (omega (arith, third-from)) (omega (arith, third-to))) (omega arith) is_y m;
        graphic = rw (le-leb 0x21 ((third - 48) * 16 + y) (omega (arith, third-from)), le-leb ((third - 48) * 16 + y) 0x7E to);
      }

  pub ends-ten : within 48 57 last ≡ true → PlainEscape s j
  ends-ten e =
      let from = within-from 48 57 last e in
      let to = within-to 48 57 last e in
      plain_by (last - 48) (ten-digit last from to) (omega arith) (omega (arith, third-to))

  pub ends-small : within 97 101 last ≡ true → PlainEscape s j
  ends-small e =
      let from = within-from 97 101 last e in
      let to = within-to 97 101 last e in
      plain_by (last - 87) (small-digit last from (omega arith)) (omega arith) (omega (arith, third-to))

  -- U+007F, which is barred, is left out
  pub ends-f : last ≡ 102 → not (eqb third 55) ≡ true → PlainEscape s j
  ends-f e n =
      plain_by 15 (rw e (small-digit 102 (omega arith) (omega arith))) (omega arith) (omega (arith, third-to, eqb-false third 55 (not-true _ n)))
