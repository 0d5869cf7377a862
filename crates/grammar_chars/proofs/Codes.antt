-- A character of the grammar is read by a step, with its code; only an escape of four digits may be joined with the next.
-- Assumes nothing.
use Rattle.std.specs.Prelude.{Ok}
use Prim.Native.Nat.{ℕ, ◌+◌, ◌*◌, ◌-◌, ◌%◌, ◌≤◌, ◌<◌}
use mathlib.Core.Path.{◌≡◌, refl, sym, ap, ◌∙◌}
use mathlib.Core.Logic.{◌≢◌}
use mathlib.Core.Bool.{Bool, true, false, ◌&&◌}
use mathlib.Core.List.{◌∷◌}
use native.Mathlib.Nat.{add-zero}
use native.Mathlib.Omega.{arith}
use borrow.Author.Tests.{ne_eqb, lt-ltb, le-ltb}
use lib.Dec.{ltb, eqb}
use lib.ListN.{get_or, drop}
use lib.Seq.{get_or-drop, drop-drop}
use Rattle.json_bytes.specs.Reads.{byte_at, within}
use Rattle.json_bytes.proofs.Laws.{within-from, within-to, both_left, both_right}
use Rattle.json_chars.specs.Step.{second, is_two, is_three, is_four, sequence_of, sequence_at, letter_escape, hex_digit, digit_at, unit_at, unit_of, escaped_at, surrogates_joined, escape_at, step_at}
use Rattle.json_chars.specs.declared.Step.TheVariants.{Char}
use Rattle.grammar.specs.Grammar
use Rattle.grammar.specs.Grammar.{Bytes, From, Tail, two, three, four, Sequence, Letter, Character}
use Rattle.grammar_machine.proofs.Complete.{in-range, outside}

-- ---- The bytes at a place, from what is left there
module _ (s : Bytes) (i : ℕ) {l : Bytes} (e : drop i s ≡ l) where
  byte_of : (k : ℕ) → byte_at s (i + k) ≡ get_or l k 0
  byte_of k = sym (get_or-drop i s k 0) ∙ ap (λ (x : Bytes). get_or x k 0) e

  pub first_of : byte_at s i ≡ get_or l 0 0
  first_of = ap (byte_at s) (sym (add-zero i)) ∙ byte_of 0

  pub left-of : (k : ℕ) → drop (i + k) s ≡ drop k l
  left-of k = sym (drop-drop k i s) ∙ ap (drop k) e

-- ---- Sequences
-- a byte from 80 on begins one, or nothing
pub high-step : (s : Bytes) (i : ℕ) → 0x80 ≤ byte_at s i → step_at s i ≡ sequence_at s i
unfolding step_at
high-step s i h =
    rw (le-ltb (byte_at s i) 32 (omega arith), ne_eqb (byte_at s i) 34 (omega arith), ne_eqb (byte_at s i) 92 (omega arith), le-ltb (byte_at s i) 128 h)

-- the tests of a sequence are the ranges of the table, the second byte's apart
both_true : {x y : Bool} → x ≡ true → y ≡ true → (x && y) ≡ true
both_true {x} {y} e f = rw (e, f)

pub range : (lowest highest b : ℕ) → within lowest highest b ≡ true → From lowest highest b
range lowest highest b e = (within-from lowest highest b e, within-to lowest highest b e)

module _ (a b : ℕ) where
  pub two-if : is_two a b ≡ true → From 0xC2 0xDF a × (second a b ≡ true)
  unfolding is_two
  two-if t = (omega (arith, range _ _ a (both_left (within _ _ a) _ t)), both_right (within _ _ a) _ t)

  two_is : From 0xC2 0xDF a → second a b ≡ true → is_two a b ≡ true
  unfolding is_two
  two_is h e = both_true (in-range _ _ a (omega arith)) e

  module _ (c : ℕ) where
    pub three-if : is_three a b c ≡ true → From 0xE0 0xEF a × (second a b ≡ true) × Tail c
    unfolding is_three
    three-if t =
        let u = both_right (within _ _ a) (second a b && within _ _ c) t in
        (omega (arith, range _ _ a (both_left (within _ _ a) _ t)), both_left (second a b) _ u, omega (arith, range _ _ c (both_right (second a b) (within _ _ c) u)))

    three-is : From 0xE0 0xEF a → second a b ≡ true → Tail c → is_three a b c ≡ true
    unfolding is_three
    three-is h e j = both_true (in-range _ _ a (omega arith)) (both_true e (in-range _ _ c (omega arith)))

    module _ (d : ℕ) where
      pub four-if : is_four a b c d ≡ true → From 0xF0 0xF4 a × (second a b ≡ true) × Tail c × Tail d
      unfolding is_four
      four-if t =
          let u = both_right (within _ _ a) (second a b && (within _ _ c && within _ _ d)) t in
          let v = both_right (second a b) (within _ _ c && within _ _ d) u in (
            omega (arith, range _ _ a (both_left (within _ _ a) _ t)),
            both_left (second a b) _ u,
            omega (arith, range _ _ c (both_left (within _ _ c) _ v)),
            omega (arith, range _ _ d (both_right (within _ _ c) (within _ _ d) v)),
          )

      four_is : From 0xF0 0xF4 a → second a b ≡ true → Tail c → Tail d → is_four a b c d ≡ true
      unfolding is_four
      four_is h e j k =
          both_true (in-range _ _ a (omega arith)) (both_true e (both_true (in-range _ _ c (omega arith)) (in-range _ _ d (omega arith))))

-- the low bits of a byte
low5 : (a : ℕ) → From 0xC0 0xDF a → a % 32 ≡ a - 0xC0
low5 a h = omega arith

low4 : (a : ℕ) → From 0xE0 0xEF a → a % 16 ≡ a - 0xE0
low4 a h = omega arith

low3 : (a : ℕ) → From 0xF0 0xF7 a → a % 8 ≡ a - 0xF0
low3 a h = omega arith

low6 : (b : ℕ) → Tail b → b % 64 ≡ b - 0x80
low6 b h = omega arith

-- so a sequence has the code of the table
no_test : (t : Bool) → (t ≡ true → ⊥) → t ≡ false
no_test true n = absurd (n refl)
no_test false n = refl

module _ (i a b c d : ℕ) where
  two-code : From 0xC2 0xDF a → second a b ≡ true → Tail b → sequence_of i a b c d ≡ Char (two a b) (i + 2)
  unfolding sequence_of
  two-code h e j = rw (two_is a b h e, low5 a (omega arith), low6 b j)

  three-code : From 0xE0 0xEF a → second a b ≡ true → Tail b → Tail c → sequence_of i a b c d ≡ Char (three a b c) (i + 3)
  unfolding sequence_of
  three-code h e j k =
      let no-two : is_two a b ≡ false = no_test _ (λ t. omega (arith, (two-if a b t).0)) in
      rw (no-two, three-is a b c h e k, low4 a h, low6 b j, low6 c k)

  four-code : From 0xF0 0xF4 a → second a b ≡ true → Tail b → Tail c → Tail d → sequence_of i a b c d ≡ Char (four a b c d) (i + 4)
  unfolding sequence_of
  four-code h e j k m =
      let no-two : is_two a b ≡ false = no_test _ (λ t. omega (arith, (two-if a b t).0)) in
      let no-three : is_three a b c ≡ false = no_test _ (λ t. omega (arith, (three-if a b c t).0)) in
      rw (no-two, no-three, four_is a b c d h e k m, low3 a (omega arith), low6 b j, low6 c k, low6 d m)

-- the range of the second byte, by the first
pub plain-range : (a b : ℕ) → a ≢ 0xE0 → a ≢ 0xED → a ≢ 0xF0 → a ≢ 0xF4 → second a b ≡ within 0x80 0xBF b
unfolding second
plain-range a b m n o p = rw (ne_eqb a 0xE0 m, ne_eqb a 0xF0 o, ne_eqb a 0xED n, ne_eqb a 0xF4 p)

plain_second : (a b : ℕ) → a ≢ 0xE0 → a ≢ 0xED → a ≢ 0xF0 → a ≢ 0xF4 → Tail b → second a b ≡ true
plain_second a b m n o p h = plain-range a b m n o p ∙ in-range 0x80 0xBF b h

-- ---- A character at a place
-- its code is no surrogate, or it is an escape of four digits
pub data Steps (s : Bytes) (i c : ℕ) (r : Bytes) : Type 0 where
  alone : (next : ℕ) → drop next s ≡ r → step_at s i ≡ Char c next → (From 0xD800 0xDFFF c → ⊥) → escaped_at s i ≡ 0 → Steps s i c r
  unit : byte_at s i ≡ 92 → drop (i + 6) s ≡ r → step_at s i ≡ surrogates_joined s i (Ok c) → escaped_at s i ≡ c → Steps s i c r

pub not-escaped : (s : Bytes) (i : ℕ) → byte_at s i ≢ 92 → escaped_at s i ≡ 0
unfolding escaped_at
not-escaped s i n = rw (ne_eqb (byte_at s i) 92 n)

module _ (s : Bytes) (i : ℕ) where
  -- a sequence of n bytes
  by-sequence : {l : Bytes} → drop i s ≡ l → (n c : ℕ) → 0x80 ≤ get_or l 0 0 → sequence_of i (get_or l 0 0) (get_or l 1 0) (get_or l 2 0) (get_or l 3 0) ≡ Char c (i + n) → (From 0xD800 0xDFFF c → ⊥) → Steps s i c (drop n l)
  unfolding sequence_at
  by-sequence e n c h q m =
      let first : 0x80 ≤ byte_at s i = rw (first_of s i e) h in
      alone (i + n) (left-of s i e n)
      (high-step s i first ∙ rw (first_of s i e, byte_of s i e 1, byte_of s i e 2, byte_of s i e 3) q)
      m
      (not-escaped s i (omega arith))

  sequence-step : {l r : Bytes} {c : ℕ} → Sequence l c r → drop i s ≡ l → Steps s i c r
  unfolding second
  sequence-step (Sequence.from_c2 {a = a} {b = b} h j) e =
      by-sequence e 2 (two a b) (omega arith)
      (two-code i a b _ _ h (plain_second a b (omega arith) (omega arith) (omega arith) (omega arith) j) j) (omega arith)
  sequence-step (Sequence.at_e0 {b = b} {c = c} j k) e =
      by-sequence e 3 (three 0xE0 b c) (omega arith)
      (three-code i 0xE0 b c _ (omega arith) (in-range 0xA0 0xBF b j) (omega arith) k) (omega arith)
  sequence-step (Sequence.from_e1 {a = a} {b = b} {c = c} h j k) e =
      by-sequence e 3 (three a b c) (omega arith)
      (three-code i a b c _ (omega arith) (plain_second a b (omega arith) (omega arith) (omega arith) (omega arith) j) j k) (omega arith)
  sequence-step (Sequence.at_ed {b = b} {c = c} j k) e =
      by-sequence e 3 (three 0xED b c) (omega arith)
      (three-code i 0xED b c _ (omega arith) (in-range 0x80 0x9F b j) (omega arith) k) (omega arith)
  sequence-step (Sequence.from_ee {a = a} {b = b} {c = c} h j k) e =
      by-sequence e 3 (three a b c) (omega arith)
      (three-code i a b c _ (omega arith) (plain_second a b (omega arith) (omega arith) (omega arith) (omega arith) j) j k) (omega arith)
  sequence-step (Sequence.at_f0 {b = b} {c = c} {d = d} j k m) e =
      by-sequence e 4 (four 0xF0 b c d) (omega arith)
      (four-code i 0xF0 b c d (omega arith) (in-range 0x90 0xBF b j) (omega arith) k m) (omega arith)
  sequence-step (Sequence.from_f1 {a = a} {b = b} {c = c} {d = d} h j k m) e =
      by-sequence e 4 (four a b c d) (omega arith)
      (four-code i a b c d (omega arith) (plain_second a b (omega arith) (omega arith) (omega arith) (omega arith) j) j k m) (omega arith)
  sequence-step (Sequence.at_f4 {b = b} {c = c} {d = d} j k m) e =
      by-sequence e 4 (four 0xF4 b c d) (omega arith)
      (four-code i 0xF4 b c d (omega arith) (in-range 0x80 0x8F b j) (omega arith) k m) (omega arith)

-- ---- Escapes
letter-code : {b c : ℕ} → Letter b c → (eqb b 117 ≡ false) × (letter_escape b ≡ c) × (0 < c) × (c < 0xD800)
unfolding letter_escape
letter-code Letter.quotation_mark = (refl, refl, omega arith, omega arith)
letter-code Letter.reverse_solidus = (refl, refl, omega arith, omega arith)
letter-code Letter.solidus = (refl, refl, omega arith, omega arith)
letter-code Letter.backspace = (refl, refl, omega arith, omega arith)
letter-code Letter.form_feed = (refl, refl, omega arith, omega arith)
letter-code Letter.new_line = (refl, refl, omega arith, omega arith)
letter-code Letter.return = (refl, refl, omega arith, omega arith)
letter-code Letter.tab = (refl, refl, omega arith, omega arith)

hex-code : {b v : ℕ} → Grammar.Hex b v → (hex_digit b ≡ v) × (v < 16)
unfolding hex_digit
hex-code (Grammar.Hex.decimal {b = b} h) = (rw (in-range 48 57 b h), omega arith)
hex-code (Grammar.Hex.upper {b = b} h) = (rw (outside 48 57 b (λ x. omega arith), in-range 65 70 b h), omega arith)
hex-code (Grammar.Hex.lower {b = b} h) =
    (rw (outside 48 57 b (λ x. omega arith), outside 65 70 b (λ x. omega arith), in-range 97 102 b h), omega arith)

digit-code : (s : Bytes) (i : ℕ) {b v : ℕ} → byte_at s i ≡ b → Grammar.Hex b v → (digit_at s i ≡ v) × (ltb (digit_at s i) 16 ≡ true)
unfolding digit_at
digit-code s i {b} {v} e h =
    let d : hex_digit (byte_at s i) ≡ v = ap hex_digit e ∙ (hex-code h).0 in
    (d, lt-ltb (hex_digit (byte_at s i)) 16 (omega (arith, (hex-code h).1)))

module _ (s : Bytes) where
  unit-code : (i : ℕ) {a b c d w x y z : ℕ} {r : Bytes} → drop i s ≡ a ∷ b ∷ c ∷ d ∷ r → Grammar.Hex a w → Grammar.Hex b x → Grammar.Hex c y → Grammar.Hex d z → unit_at s i ≡ Ok (w * 0x1000 + x * 0x100 + y * 0x10 + z)
  unfolding unit_at
  unit-code i {w = w} {x} {y} {z} e h j k m =
      let p : (digit_at s i ≡ w) × (ltb (digit_at s i) 16 ≡ true) = digit-code s i (first_of s i e) h in
      let q : (digit_at s (i + 1) ≡ x) × (ltb (digit_at s (i + 1)) 16 ≡ true) = digit-code s (i + 1) (byte_of s i e 1) j in
      let t : (digit_at s (i + 2) ≡ y) × (ltb (digit_at s (i + 2)) 16 ≡ true) = digit-code s (i + 2) (byte_of s i e 2) k in
      let u : (digit_at s (i + 3) ≡ z) × (ltb (digit_at s (i + 3)) 16 ≡ true) = digit-code s (i + 3) (byte_of s i e 3) m in
      rw (p.1, q.1, t.1, u.1, p.0, q.0, t.0, u.0)

  module _ (i : ℕ) where
    letter-step : {b c : ℕ} {r : Bytes} → Letter b c → drop i s ≡ 92 ∷ b ∷ r → Steps s i c r
    unfolding step_at escape_at escaped_at
    letter-step {b} {c} h e =
        let k : (eqb b 117 ≡ false) × (letter_escape b ≡ c) × (0 < c) × (c < 0xD800) = letter-code h in
        alone (i + 2) (left-of s i e 2)
        (rw (first_of s i e, byte_of s i e 1, k.0, k.1, lt-ltb 0 c k.2))
        (omega (arith, k.3))
        (rw (first_of s i e, byte_of s i e 1, k.0))

    unit-step : {a b c d w x y z : ℕ} {r : Bytes} → drop i s ≡ 92 ∷ 117 ∷ a ∷ b ∷ c ∷ d ∷ r → Grammar.Hex a w → Grammar.Hex b x → Grammar.Hex c y → Grammar.Hex d z → Steps s i (w * 0x1000 + x * 0x100 + y * 0x10 + z) r
    unfolding step_at escape_at escaped_at unit_of
    unit-step e h j k m =
        unit (first_of s i e) (left-of s i e 6)
        (rw (first_of s i e, byte_of s i e 1, unit-code (i + 2) (left-of s i e 2) h j k m))
        (rw (first_of s i e, byte_of s i e 1, unit-code (i + 2) (left-of s i e 2) h j k m))

    plain_step : {b : ℕ} {r : Bytes} → From 0x20 0x7F b → b ≢ 34 → b ≢ 92 → drop i s ≡ b ∷ r → Steps s i b r
    unfolding step_at
    plain_step {b} h n m e =
        alone (i + 1) (left-of s i e 1)
        (rw (first_of s i e, le-ltb b 32 (omega arith), ne_eqb b 34 n, ne_eqb b 92 m, lt-ltb b 128 (omega arith)))
        (omega arith)
        (not-escaped s i (rw (first_of s i e) m))

    pub character-step : {l r : Bytes} {c : ℕ} → Character l c r → drop i s ≡ l → Steps s i c r
    character-step (Character.itself h n m) e = plain_step h n m e
    character-step (Character.sequence q) e = sequence-step s i q e
    character-step (Character.letter h) e = letter-step h e
    character-step (Character.four_digits h j k m) e = unit-step e h j k m
