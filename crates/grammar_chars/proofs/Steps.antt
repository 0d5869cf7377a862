-- A step inside a string takes a character of the grammar, or its closing quote, or stops where no string goes on.
-- Assumes nothing.
use Rattle.std.specs.Prelude.{Ok, Err}
use Prim.Native.Nat.{ℕ, ◌+◌, ◌≤◌, ◌<◌}
use mathlib.Core.Path.{◌≡◌, refl, sym, ◌∙◌}
use mathlib.Core.Logic.{◌⊎◌, inl, inr, ⊎_elim, ◌≢◌}
use mathlib.Core.Bool.{Bool, true, false, cond}
use mathlib.Core.List.{[], ◌∷◌, ◌++◌}
use native.Mathlib.Decide.{ℕ_discrete, dec_le}
use native.Mathlib.Omega.{arith}
use borrow.Author.Tests.{eqb-true, eqb-false, ltb-true, ltb-false, lt-ltb, le-ltb}
use lib.Dec.{ltb, eqb}
use Rattle.json_bytes.specs.Reads.{byte_at, within}
use Rattle.json_bytes.proofs.Laws.{by-test, within-from, within-to}
use Rattle.json_chars.specs.Step.{second, is_two, is_three, is_four, sequence_of, sequence_at, letter_escape, hex_digit, digit_at, unit_at, unit_of, escaped_at, is_pair, surrogates_joined, escape_at, step_at, Unit16}
use Rattle.json_chars.specs.declared.Step.{Step}
use Rattle.json_chars.specs.declared.Step.TheVariants.{Char, Close, Bad}
use Rattle.json_chars.proofs.Laws.{pair-low}
use Rattle.grammar.specs.Grammar.{Bytes, From, Tail}
use Rattle.grammar_machine.proofs.Machine.{one, tail, characters, escape, hex, Stack, Push, Stuck, row_of, expand}
use Rattle.grammar_machine.proofs.Run.{move-is}
use Rattle.grammar_machine.proofs.Complete.{one-row, plain_row}
use Rattle.grammar_machine.proofs.Places.{At, push_at, onto}
use Rattle.grammar_machine.proofs.Tokens.{Stopped, stop, Broken, Told, stopped, broken}
use Rattle.grammar_chars.proofs.Codes.{high-step, range, two-if, three-if, four-if, plain-range, Steps, alone, unit, character-step}

-- ---- What a step answers
abbrev pub Stepped : Stack → ℕ → Bytes → Stack → ℕ → Step → Type 0
Stepped K₀ start s K i (Char code next) = At K₀ start s (characters ∷ K) next
Stepped K₀ start s K i Close = At K₀ start s K (i + 1)
Stepped K₀ start s K i (Bad kind place) = Told K₀ start s kind place × (kind ≤ 11)

-- ---- Hexadecimal digits
pub record IsHex (b : ℕ) : Type 0 where
  pub byte : 0 < b
  pub push : expand hex b ≡ Push []

hex-move : (b : ℕ) → ((hex_digit b < 16) × IsHex b) ⊎ ((hex_digit b ≡ 16) × (expand hex b ≡ Stuck))
unfolding hex_digit row_of
hex-move b = go (within 48 57 b) (within 65 70 b) (within 97 102 b) refl refl refl
  where
    go : (p q r : Bool) → within 48 57 b ≡ p → within 65 70 b ≡ q → within 97 102 b ≡ r → ((hex_digit b < 16) × IsHex b) ⊎ ((hex_digit b ≡ 16) × (expand hex b ≡ Stuck))
    go true q r e f g =
        inl (rw e (omega (arith, within-to 48 57 b e)), record { byte = omega (arith, within-from 48 57 b e); push = rw (row_of, e) })
    go false true r e f g =
        inl (rw (e, f) (omega (arith, within-to 65 70 b f)), record { byte = omega (arith, within-from 65 70 b f); push = rw (row_of, e, f) })
    go false false true e f g =
        inl (rw (e, f, g) (omega (arith, within-to 97 102 b g)), record { byte = omega (arith, within-from 97 102 b g); push = rw (row_of, e, f, g) })
    go false false false e f g = inr (rw (e, f, g), rw (row_of, e, f, g))

is-hex : (b : ℕ) → hex_digit b < 16 → IsHex b
is-hex b h = ⊎_elim (λ m. m.1) (λ m. absurd (omega (arith, m.0))) (hex-move b)

hex-stuck : (b : ℕ) → 16 ≤ hex_digit b → expand hex b ≡ Stuck
hex-stuck b h = ⊎_elim (λ m. absurd (omega (arith, m.0))) (λ m. m.1) (hex-move b)

-- the letter behind a backslash
record IsLetter (b : ℕ) : Type 0 where
  byte : 0 < b
  push : expand escape b ≡ Push []

letter-move : (b : ℕ) → eqb b 117 ≡ false → ((0 < letter_escape b) × IsLetter b) ⊎ ((letter_escape b ≡ 0) × (expand escape b ≡ Stuck))
unfolding letter_escape row_of
letter-move b n = go (eqb b 34) (eqb b 92) (eqb b 47) (eqb b 98) (eqb b 102) (eqb b 110) (eqb b 114) (eqb b 116) refl refl refl refl refl refl refl refl
  where
    go : (p q r t u v w x : Bool) → eqb b 34 ≡ p → eqb b 92 ≡ q → eqb b 47 ≡ r → eqb b 98 ≡ t → eqb b 102 ≡ u → eqb b 110 ≡ v → eqb b 114 ≡ w → eqb b 116 ≡ x → ((0 < letter_escape b) × IsLetter b) ⊎ ((letter_escape b ≡ 0) × (expand escape b ≡ Stuck))
    go true q r t u v w x a c d e f g h i = inl (rw (a) (omega arith), record { byte = omega (arith, eqb-true b 34 a); push = rw (row_of, a) })
    go false true r t u v w x a c d e f g h i = inl (rw (a, c) (omega arith), record { byte = omega (arith, eqb-true b 92 c); push = rw (row_of, a, c) })
    go false false true t u v w x a c d e f g h i = inl (rw (a, c, d) (omega arith), record { byte = omega (arith, eqb-true b 47 d); push = rw (row_of, a, c, d) })
    go false false false true u v w x a c d e f g h i = inl (rw (a, c, d, e) (omega arith), record { byte = omega (arith, eqb-true b 98 e); push = rw (row_of, a, c, d, e) })
    go false false false false true v w x a c d e f g h i = inl (rw (a, c, d, e, f) (omega arith), record { byte = omega (arith, eqb-true b 102 f); push = rw (row_of, a, c, d, e, f) })
    go false false false false false true w x a c d e f g h i = inl (rw (a, c, d, e, f, g) (omega arith), record { byte = omega (arith, eqb-true b 110 g); push = rw (row_of, a, c, d, e, f, g) })
    go false false false false false false true x a c d e f g h i = inl (rw (a, c, d, e, f, g, h) (omega arith), record { byte = omega (arith, eqb-true b 114 h); push = rw (row_of, a, c, d, e, f, g, h) })
    go false false false false false false false true a c d e f g h i = inl (rw (a, c, d, e, f, g, h, i) (omega arith), record { byte = omega (arith, eqb-true b 116 i); push = rw (row_of, a, c, d, e, f, g, h, i) })
    go false false false false false false false false a c d e f g h i = inr (rw (a, c, d, e, f, g, h, i), rw (row_of, a, c, d, e, f, g, h, i, n))

-- ---- The first byte of a sequence
-- what it lets follow: a second byte of a range, and the rest
record Leads (a : ℕ) (rest : Stack) : Type 0 where
  lowest : ℕ
  more : ℕ
  above : 0 < lowest
  push : expand characters a ≡ Push (one lowest more ∷ rest)
  range : (b : ℕ) → second a b ≡ within lowest (lowest + more) b

-- by a row of the table, where the second byte's range is the common one
lead : (a : ℕ) (rest : Stack) → a ≢ 0xE0 → a ≢ 0xED → a ≢ 0xF0 → a ≢ 0xF4 → expand characters a ≡ Push (tail ∷ rest) → Leads a rest
lead a rest m n o p e =
    record { lowest = 0x80; more = 0x3F; above = omega arith; push = e; range = λ b. plain-range a b m n o p }

leads_one : (a : ℕ) → From 0xC2 0xDF a → Leads a (characters ∷ [])
unfolding row_of within
leads_one a h =
    lead a (characters ∷ []) (omega arith) (omega arith) (omega arith) (omega arith) (move-is characters 5 0xC2 0x1D refl a h)

leads-two : (a : ℕ) → From 0xE0 0xEF a → Leads a (tail ∷ characters ∷ [])
unfolding row_of within second
leads-two a h = go (ℕ_discrete a 0xE0) (ℕ_discrete a 0xED) (dec_le a 0xED)
  where
    go : Dec (a ≡ 0xE0) → Dec (a ≡ 0xED) → Dec (a ≤ 0xED) → Leads a (tail ∷ characters ∷ [])
    go (yes e) n m = rw e (record { lowest = 0xA0; more = 0x1F; above = omega arith; push = refl; range = λ b. refl })
    go (no o) (yes e) m = rw e (record { lowest = 0x80; more = 0x1F; above = omega arith; push = refl; range = λ b. refl })
    go (no o) (no n) (yes m) =
        lead a (tail ∷ characters ∷ []) o n (omega arith) (omega arith) (move-is characters 7 0xE1 0x0B refl a (omega arith))
    go (no o) (no n) (no m) =
        lead a (tail ∷ characters ∷ []) o n (omega arith) (omega arith) (move-is characters 9 0xEE 0x01 refl a (omega arith))

leads-three : (a : ℕ) → From 0xF0 0xF4 a → Leads a (tail ∷ tail ∷ characters ∷ [])
unfolding row_of within second
leads-three a h = go (ℕ_discrete a 0xF0) (ℕ_discrete a 0xF4)
  where
    go : Dec (a ≡ 0xF0) → Dec (a ≡ 0xF4) → Leads a (tail ∷ tail ∷ characters ∷ [])
    go (yes e) n = rw e (record { lowest = 0x90; more = 0x2F; above = omega arith; push = refl; range = λ b. refl })
    go (no o) (yes e) = rw e (record { lowest = 0x80; more = 0x0F; above = omega arith; push = refl; range = λ b. refl })
    go (no o) (no n) =
        lead a (tail ∷ tail ∷ characters ∷ []) (omega arith) (omega arith) o n (move-is characters 11 0xF1 0x02 refl a (omega arith))

-- ---- No character begins where a byte from 80 on begins no sequence
no-character : (s : Bytes) (i : ℕ) → 0x80 ≤ byte_at s i → sequence_at s i ≡ Bad 10 i → Broken s i
no-character s i h e = record { high = h; none = λ c r q. never c r (character-step s i q refl) }
  where
    never : (c : ℕ) (r : Bytes) → Steps s i c r → ⊥
    never c r (alone next l f n z) =
        let z : ◌≡◌ {A = ℕ} 0 1 = cc (high-step s i h) in
        omega arith
    never c r (unit b l f z) = omega arith

-- ---- Escapes
-- four digits: behind them, or at the first place that holds none
abbrev UnitRead : Stack → ℕ → Bytes → Stack → ℕ → Unit16 → Type 0
UnitRead K₀ start s K i (Ok u) = At K₀ start s K (i + 4)
UnitRead K₀ start s K i (Err place) = Stopped K₀ start s place

module _ (K₀ : Stack) (start : ℕ) (s : Bytes) where
  -- a hexadecimal digit, as the reader asks for it
  if-digit : {A : Type 0} (P : A → Type 0) (K : Stack) (i : ℕ) (x y : A) → At K₀ start s (hex ∷ K) i → (At K₀ start s K (i + 1) → P x) → (Stopped K₀ start s i → P y) → P (cond (ltb (digit_at s i) 16) x y)
  unfolding digit_at
  if-digit P K i x y a f g =
      by-test P (ltb (hex_digit (byte_at s i)) 16) x y
      (λ t. let h : IsHex (byte_at s i) = is-hex (byte_at s i) (ltb-true (hex_digit (byte_at s i)) 16 t) in
      f (push_at hex K [] (byte_at s i) refl h.byte h.push a))
      (λ t. g (stop hex K (hex-stuck (byte_at s i) (ltb-false (hex_digit (byte_at s i)) 16 t)) a))

  unit-at : (K : Stack) (i : ℕ) → At K₀ start s (hex ∷ hex ∷ hex ∷ hex ∷ K) i → UnitRead K₀ start s K i (unit_at s i)
  unfolding unit_at
  unit-at K i a =
      if-digit (UnitRead K₀ start s K i) (hex ∷ hex ∷ hex ∷ K) i _ _ a
      (λ b. if-digit (UnitRead K₀ start s K i) (hex ∷ hex ∷ K) (i + 1) _ _ b
      (λ c. if-digit (UnitRead K₀ start s K i) (hex ∷ K) (i + 2) _ _ (onto (omega arith) c)
      (λ d. if-digit (UnitRead K₀ start s K i) K (i + 3) _ _ (onto (omega arith) d) (λ e. onto (omega arith) e) (λ p. p))
      (λ p. p))
      (λ p. p))
      (λ p. p)

  module _ (K : Stack) where
    -- behind a backslash and a `u`
    behind-u : (i : ℕ) → byte_at s i ≡ 92 → byte_at s (i + 1) ≡ 117 → At K₀ start s (characters ∷ K) i → At K₀ start s (hex ∷ hex ∷ hex ∷ hex ∷ characters ∷ K) (i + 2)
    unfolding row_of
    behind-u i e f a =
        onto (omega arith)
        (push_at escape (characters ∷ K) (hex ∷ hex ∷ hex ∷ hex ∷ []) 117 f (omega arith) refl
        (push_at characters K (escape ∷ characters ∷ []) 92 e (omega arith) refl a))

    -- behind an escape of four digits that stands for a unit other than 0
    escaped-at : (i : ℕ) → At K₀ start s (characters ∷ K) i → 0 < escaped_at s i → At K₀ start s (characters ∷ K) (i + 6)
    unfolding escaped_at unit_of
    escaped-at i a =
        by-test (λ (n : ℕ). 0 < n → At K₀ start s (characters ∷ K) (i + 6)) (eqb (byte_at s i) 92) _ _
        (λ e. by-test (λ (n : ℕ). 0 < n → At K₀ start s (characters ∷ K) (i + 6)) (eqb (byte_at s (i + 1)) 117) _ _
        (λ f. behind (unit_at s (i + 2)) (unit-at (characters ∷ K) (i + 2) (behind-u i (eqb-true _ 92 e) (eqb-true _ 117 f) a)))
        (λ n h. absurd (omega arith)))
        (λ n h. absurd (omega arith))
      where
        behind : (u : Unit16) → UnitRead K₀ start s (characters ∷ K) (i + 2) u → 0 < unit_of u → At K₀ start s (characters ∷ K) (i + 6)
        behind (Ok u) b h = onto (omega arith) b
        behind (Err place) b h = absurd (omega arith)

    joined_at : (i : ℕ) (u : Unit16) → UnitRead K₀ start s (characters ∷ K) (i + 2) u → Stepped K₀ start s K i (surrogates_joined s i u)
    unfolding surrogates_joined
    joined_at i (Err place) p = (stopped p, omega arith)
    joined_at i (Ok u) a =
        let b : At K₀ start s (characters ∷ K) (i + 6) = onto (omega arith) a in
        by-test (Stepped K₀ start s K i) (is_pair u (escaped_at s (i + 6))) _ _
        (λ t. onto (omega arith) (escaped-at (i + 6) b (omega (arith, within-from _ _ (escaped_at s (i + 6)) (pair-low u (escaped_at s (i + 6)) t)))))
        (λ n. b)

    -- a letter behind the backslash, or none that may stand there
    letter_at : (i : ℕ) → eqb (byte_at s (i + 1)) 117 ≡ false → At K₀ start s (escape ∷ characters ∷ K) (i + 1) → Stepped K₀ start s K i (cond (ltb 0 (letter_escape (byte_at s (i + 1)))) (Char (letter_escape (byte_at s (i + 1))) (i + 2)) (Bad 11 (i + 1)))
    letter_at i n b =
        ⊎_elim
        (λ h. rw (lt-ltb 0 (letter_escape (byte_at s (i + 1))) h.0)
        (onto (omega arith) (push_at escape (characters ∷ K) [] (byte_at s (i + 1)) refl h.1.byte h.1.push b)))
        (λ h. rw (le-ltb 0 (letter_escape (byte_at s (i + 1))) (omega (arith, h.0))) (stopped (stop escape (characters ∷ K) h.1 b), omega arith))
        (letter-move (byte_at s (i + 1)) n)

    escape-at : (i : ℕ) → byte_at s i ≡ 92 → At K₀ start s (characters ∷ K) i → Stepped K₀ start s K i (escape_at s i)
    unfolding escape_at row_of
    escape-at i e a =
        by-test (Stepped K₀ start s K i) (eqb (byte_at s (i + 1)) 117) _ _
        (λ f. joined_at i (unit_at s (i + 2)) (unit-at (characters ∷ K) (i + 2) (behind-u i e (eqb-true _ 117 f) a)))
        (λ n. letter_at i n (push_at characters K (escape ∷ characters ∷ []) 92 e (omega arith) refl a))

    -- ---- Sequences
    -- a byte of a range that the machine waits for
    byte-at : (lowest more : ℕ) (J : Stack) (i : ℕ) → From lowest (lowest + more) (byte_at s i) → 0 < lowest → At K₀ start s (one lowest more ∷ J) i → At K₀ start s J (i + 1)
    byte-at lowest more J i h p a =
        push_at (one lowest more) J [] (byte_at s i) refl (omega arith) (one-row lowest more (byte_at s i) h) a

    tail_at : (J : Stack) (i : ℕ) → Tail (byte_at s i) → At K₀ start s (tail ∷ J) i → At K₀ start s J (i + 1)
    tail_at J i h a = byte-at 0x80 0x3F J i h (omega arith) a

    -- the first two bytes of a sequence
    two_at : (rest : Stack) (i : ℕ) → 0x80 ≤ byte_at s i → Leads (byte_at s i) rest → second (byte_at s i) (byte_at s (i + 1)) ≡ true → At K₀ start s (characters ∷ K) i → At K₀ start s (rest ++ K) (i + 2)
    two_at rest i h d e a =
        onto (omega arith)
        (byte-at d.lowest d.more (rest ++ K) (i + 1) (range _ _ _ (sym (d.range (byte_at s (i + 1))) ∙ e)) d.above
        (push_at characters K (one d.lowest d.more ∷ rest) (byte_at s i) refl (omega arith) d.push a))

    sequence-at : (i : ℕ) → 0x80 ≤ byte_at s i → At K₀ start s (characters ∷ K) i → Stepped K₀ start s K i (sequence_at s i)
    unfolding sequence_at sequence_of
    sequence-at i h a =
        by-test (Stepped K₀ start s K i) (is_two (byte_at s i) (byte_at s (i + 1))) _ _
        (λ t.
        let q = two-if (byte_at s i) (byte_at s (i + 1)) t in
        two_at (characters ∷ []) i h (leads_one (byte_at s i) q.0) q.1 a)
        (λ m. by-test (Stepped K₀ start s K i) (is_three (byte_at s i) (byte_at s (i + 1)) (byte_at s (i + 2))) _ _
        (λ t.
        let q = three-if (byte_at s i) (byte_at s (i + 1)) (byte_at s (i + 2)) t in
        onto (omega arith)
        (tail_at (characters ∷ K) (i + 2) q.2
        (two_at (tail ∷ characters ∷ []) i h (leads-two (byte_at s i) q.0) q.1 a)))
        (λ n. by-test (Stepped K₀ start s K i) (is_four (byte_at s i) (byte_at s (i + 1)) (byte_at s (i + 2)) (byte_at s (i + 3))) _ _
        (λ t.
        let q = four-if (byte_at s i) (byte_at s (i + 1)) (byte_at s (i + 2)) (byte_at s (i + 3)) t in
        onto (omega arith)
        (tail_at (characters ∷ K) (i + 3) q.3
        (onto (omega arith)
        (tail_at (tail ∷ characters ∷ K) (i + 2) q.2
        (two_at (tail ∷ tail ∷ characters ∷ []) i h (leads-three (byte_at s i) q.0) q.1 a)))))
        (λ o. (broken K a (no-character s i h (rw (m, n, o))), omega arith))))

    pub step-at : (i : ℕ) → At K₀ start s (characters ∷ K) i → Stepped K₀ start s K i (step_at s i)
    unfolding step_at row_of within
    step-at i a =
        by-test (Stepped K₀ start s K i) (ltb (byte_at s i) 32) _ _
        (λ t. (stopped (stop characters K (move-is characters 13 0 31 refl (byte_at s i) (omega (arith, ltb-true (byte_at s i) 32 t))) a), omega arith))
        (λ c. by-test (Stepped K₀ start s K i) (eqb (byte_at s i) 34) _ _
        (λ e. push_at characters K [] 34 (eqb-true _ 34 e) (omega arith) refl a)
        (λ q. by-test (Stepped K₀ start s K i) (eqb (byte_at s i) 92) _ _
        (λ e. escape-at i (eqb-true _ 92 e) a)
        (λ r. by-test (Stepped K₀ start s K i) (ltb (byte_at s i) 128) _ _
        (λ t. push_at characters K (characters ∷ []) (byte_at s i) refl (omega (arith, ltb-false (byte_at s i) 32 c))
        (plain_row {b = byte_at s i} (omega (arith, ltb-false (byte_at s i) 32 c, ltb-true (byte_at s i) 128 t)) (eqb-false _ 34 q) (eqb-false _ 92 r)) a)
        (λ h. sequence-at i (ltb-false (byte_at s i) 128 h) a))))
