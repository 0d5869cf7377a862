-- What a caller needs of a step at a place within the file: a character ends behind its place and within the file, a
-- closing quote stands inside it, and a fault's place lies within it or at its length.
-- Assumes nothing.
use Rattle.std.specs.Prelude.{Ok, Err}
use Prim.Native.Nat.{ℕ, zero, suc, ◌+◌, ◌≤◌, ◌<◌}
use mathlib.Core.Path.{◌≡◌, refl}
use mathlib.Core.Bool.{true}
use mathlib.Core.List.{List}
use native.Mathlib.Nat.{not-suc-le-zero}
use native.Mathlib.Omega.{arith}
use borrow.Author.Tests.{ltb-true, ltb-false, eqb-true}
use lib.ListN.{length}
use lib.Dec.{ltb, eqb}
use Rattle.json_bytes.specs.Reads.{byte_at, within}
use Rattle.json_bytes.proofs.Laws.{inside, by-test, both_right, within-from}
use Rattle.json_chars.specs.Step.{second, is_two, is_three, is_four, sequence_of, sequence_at, letter_escape, hex_digit, digit_at, unit_at, unit_of, escaped_at, is_pair, surrogates_joined, escape_at, step_at, Unit16}
use Rattle.json_chars.specs.declared.Step.{Step}
use Rattle.json_chars.specs.declared.Step.TheVariants.{Char, Close, Bad}
use Rattle.json_chars.proofs.Laws.{pair-low}

abbrev pub Good : List ℕ → ℕ → Step → Type 0
Good s i (Char code n) = (i < n) × (n ≤ length s)
Good s i Close = i < length s
Good s i (Bad kind p) = p ≤ length s

abbrev UnitGood : List ℕ → ℕ → Unit16 → Type 0
UnitGood s i (Ok u) = i + 3 < length s
UnitGood s i (Err p) = p ≤ length s

-- the second byte of a sequence is never below 80
second_from : (a b : ℕ) → second a b ≡ true → 0x80 ≤ b
unfolding second
second_from a b e =
    omega (
      arith,
      within-from _ _ b e,
      by-test (λ (n : ℕ). 0x80 ≤ n) (eqb a 0xE0) 0xA0 _ (λ _. omega arith)
          (λ _. by-test (λ (n : ℕ). 0x80 ≤ n) (eqb a 0xF0) 0x90 0x80 (λ _. omega arith) (λ _. omega arith)),
    )

two_from : (a b : ℕ) → is_two a b ≡ true → 0x80 ≤ b
unfolding is_two
two_from a b t = second_from a b (both_right (within 0xC2 0xDF a) (second a b) t)

three-from : (a b c : ℕ) → is_three a b c ≡ true → 0x80 ≤ c
unfolding is_three
three-from a b c t =
    within-from 0x80 0xBF c (both_right (second a b) (within 0x80 0xBF c) (both_right (within 0xE0 0xEF a) _ t))

four-from : (a b c d : ℕ) → is_four a b c d ≡ true → 0x80 ≤ d
unfolding is_four
four-from a b c d t =
    within-from 0x80 0xBF d
    (both_right (within 0x80 0xBF c) (within 0x80 0xBF d) (both_right (second a b) _ (both_right (within 0xF0 0xF4 a) _ t)))

module _ (s : List ℕ) (i : ℕ) where
  here : 0 < byte_at s i → i < length s
  here h = inside s i (byte_at s i) refl h

sequence-good : (s : List ℕ) (i : ℕ) → i ≤ length s → Good s i (sequence_at s i)
unfolding sequence_at sequence_of
sequence-good s i l =
    by-test (Good s i) _ _ _
    (λ t. let h : i + 1 < length s = here s (i + 1) (omega (arith, two_from (byte_at s i) (byte_at s (i + 1)) t)) in (omega arith, omega arith))
    (λ _. by-test (Good s i) _ _ _
    (λ t. let h : i + 2 < length s = here s (i + 2) (omega (arith, three-from (byte_at s i) (byte_at s (i + 1)) (byte_at s (i + 2)) t)) in
    (omega arith, omega arith))
    (λ _. by-test (Good s i) _ _ _
    (λ t. let h : i + 3 < length s = here s (i + 3) (omega (arith, four-from (byte_at s i) (byte_at s (i + 1)) (byte_at s (i + 2)) (byte_at s (i + 3)) t)) in
    (omega arith, omega arith))
    (λ _. l)))

-- a byte that is a hexadecimal digit is not the 0 past the end
digit-in : (s : List ℕ) (i : ℕ) → digit_at s i < 16 → i < length s
unfolding digit_at hex_digit
digit-in s i h =
    here s i
    (by-test (λ (n : ℕ). n < 16 → 0 < byte_at s i) (within 48 57 (byte_at s i)) _ _ (λ t _. omega (arith, within-from 48 57 (byte_at s i) t))
    (λ _. by-test (λ (n : ℕ). n < 16 → 0 < byte_at s i) (within 65 70 (byte_at s i)) _ _ (λ t _. omega (arith, within-from 65 70 (byte_at s i) t))
    (λ _. by-test (λ (n : ℕ). n < 16 → 0 < byte_at s i) (within 97 102 (byte_at s i)) _ _ (λ t _. omega (arith, within-from 97 102 (byte_at s i) t))
    (λ _ q. omega arith))) h)

unit-good : (s : List ℕ) (i : ℕ) → i ≤ length s → UnitGood s i (unit_at s i)
unfolding unit_at
unit-good s i l =
    by-test (UnitGood s i) (ltb (digit_at s i) 16) _ _
    (λ a. by-test (UnitGood s i) (ltb (digit_at s (i + 1)) 16) _ _
    (λ b. by-test (UnitGood s i) (ltb (digit_at s (i + 2)) 16) _ _
    (λ e. by-test (UnitGood s i) (ltb (digit_at s (i + 3)) 16) _ _
    (λ d. digit-in s (i + 3) (ltb-true (digit_at s (i + 3)) 16 d))
    (λ _. omega (arith, digit-in s (i + 2) (ltb-true (digit_at s (i + 2)) 16 e))))
    (λ _. omega (arith, digit-in s (i + 1) (ltb-true (digit_at s (i + 1)) 16 b))))
    (λ _. omega (arith, digit-in s i (ltb-true (digit_at s i) 16 a))))
    (λ _. l)

-- an escape that stands for a unit other than 0 stands whole
escaped-in : (s : List ℕ) (i : ℕ) → i ≤ length s → 0 < escaped_at s i → i + 5 < length s
unfolding escaped_at unit_of
escaped-in s i l =
    by-test (λ (n : ℕ). 0 < n → i + 5 < length s) (eqb (byte_at s i) 92) _ _
    (λ a. by-test (λ (n : ℕ). 0 < n → i + 5 < length s) (eqb (byte_at s (i + 1)) 117) _ _
    (λ b h. of-unit (unit_at s (i + 2)) (unit-good s (i + 2) (omega (arith, here s (i + 1) (omega (arith, eqb-true (byte_at s (i + 1)) 117 b))))) h)
    (λ _ h. omega arith))
    (λ _ h. omega arith)
  where
    of-unit : (u : Unit16) → UnitGood s (i + 2) u → 0 < unit_of u → i + 5 < length s
    of-unit (Ok u) g h = omega (arith, g)
    of-unit (Err p) g h = omega arith

joined-good : (s : List ℕ) (i : ℕ) (u : Unit16) → i ≤ length s → UnitGood s (i + 2) u → Good s i (surrogates_joined s i u)
unfolding surrogates_joined
joined-good s i (Err p) l g = g
joined-good s i (Ok u) l g =
    by-test (Good s i) (is_pair u (escaped_at s (i + 6))) _ _
    (λ t. let h : i + 6 + 5 < length s = escaped-in s (i + 6) (omega (arith, g)) (omega (arith, within-from _ _ (escaped_at s (i + 6)) (pair-low u (escaped_at s (i + 6)) t))) in
    (omega arith, omega arith))
    (λ _. (omega arith, omega (arith, g)))

letter-from : (b : ℕ) → 0 < letter_escape b → 0 < b
unfolding letter_escape
letter-from zero h = absurd (not-suc-le-zero h)
letter-from (suc b) h = omega arith

escape-good : (s : List ℕ) (i : ℕ) → i < length s → Good s i (escape_at s i)
unfolding escape_at
escape-good s i l =
    by-test (Good s i) (eqb (byte_at s (i + 1)) 117) _ _
    (λ u. joined-good s i (unit_at s (i + 2)) (omega arith)
    (unit-good s (i + 2) (omega (arith, here s (i + 1) (omega (arith, eqb-true (byte_at s (i + 1)) 117 u))))))
    (λ _. by-test (Good s i) (ltb 0 (letter_escape (byte_at s (i + 1)))) _ _
    (λ t. (omega arith, omega (arith, here s (i + 1) (letter-from (byte_at s (i + 1)) (ltb-true 0 (letter_escape (byte_at s (i + 1))) t)))))
    (λ _. omega arith))

pub step-good : (s : List ℕ) (i : ℕ) → i ≤ length s → Good s i (step_at s i)
unfolding step_at
step-good s i l =
    by-test (Good s i) (ltb (byte_at s i) 32) _ _ (λ _. l)
    (λ n. let h : i < length s = here s i (omega (arith, ltb-false (byte_at s i) 32 n)) in
    by-test (Good s i) (eqb (byte_at s i) 34) _ _ (λ _. h)
    (λ _. by-test (Good s i) (eqb (byte_at s i) 92) _ _ (λ _. escape-good s i h)
    (λ _. by-test (Good s i) (ltb (byte_at s i) 128) _ _ (λ _. (omega arith, omega arith)) (λ _. sequence-good s i l))))
