-- UTF-8: what stands as itself in a string is the Standard's encoding of its code, every such encoding is read, and the
-- code of a character is a scalar value, or a surrogate that an escape leaves unpaired.
-- Assumes nothing.
use Rattle.std.specs.Prelude.{Ok, Err}
use Prim.Native.Nat.{ℕ, ◌+◌, ◌-◌, ◌*◌, ◌≤◌, ◌<◌}
use mathlib.Core.Path.{◌≡◌, refl, sym, ap, ◌∙◌}
use mathlib.Core.Bool.{Bool, true, false, cond}
use mathlib.Core.List.{List, [], ◌∷◌}
use mathlib.Core.Logic.{◌↔◌, ◌⊎◌, inl, inr, ⊎_elim}
use native.Mathlib.Decide.{ℕ_discrete, dec_le}
use native.Mathlib.Omega.{arith}
use borrow.Author.Tests.{eq-eqb, ne_eqb, eqb-true, eqb-false, lt-ltb, le-ltb, ltb-true, ltb-false}
use lib.ListN.{length, take, drop}
use lib.Dec.{ltb, eqb}
use Rattle.json_bytes.specs.Reads.{byte_at, within}
use Rattle.json_bytes.proofs.Laws.{by-test, inside, within-from, within-to}
use Rattle.json_chars.specs.Step.{is_two, is_three, is_four, sequence_of, sequence_at, letter_escape, digit_at, unit_at, escaped_at, is_pair, surrogates_joined, escape_at, step_at, Unit16}
use Rattle.json_chars.specs.declared.Step.{Step}
use Rattle.json_chars.specs.declared.Step.TheVariants.{Char, Close, Bad}
use Rattle.json_chars.proofs.Laws.{pair-high, pair-low}
use Rattle.json_chars.proofs.Bounds.{step-good}
use Rattle.json_meaning.specs.Unicode.{is_scalar, is_surrogate, encoded, EncodedAt, Raw, Unpaired}
use Rattle.json_meaning.proofs.Places.{byte_of, byte-first, take-one, take-two, take-three, take-four}
use Rattle.json_meaning.proofs.Sequences.{outside, scalar-says, Coded, two-coded, three_coded, four_coded, two-read, three-read, four-read, encoded-one, encoded-two, encoded-three, encoded-four}

-- ---- What is read is an encoding
module _ (s : List ℕ) (i code next : ℕ) where
  -- bytes whose code is read, and which stand there
  read_is : {x n : ℕ} {bytes : List ℕ} → Coded x bytes → take (length bytes) (drop i s) ≡ bytes → n ≡ i + length bytes → Char x n ≡ Char code next → EncodedAt s i code next × (0x80 ≤ code)
  read_is {x} {n} {bytes} c b e q =
      let codes : x ≡ code = cc in
      let ends : n ≡ next = cc in
      let spelled : encoded code ≡ bytes = ap encoded (sym codes) ∙ c.spelled in (
        record {
          scalar = rw codes at c.scalar;
          stands = record { there = rw spelled b; ends = sym ends ∙ rw spelled e };
        },
        rw codes at c.behind,
      )

  sequence-encoded : next ≤ length s → sequence_at s i ≡ Char code next → EncodedAt s i code next × (0x80 ≤ code)
  unfolding sequence_at sequence_of
  sequence-encoded l =
      by-test Then (is_two (byte_at s i) (byte_at s (i + 1))) _ _
      (λ e q.
      let n : i + 2 ≡ next = cc in
      read_is (two-coded (byte_at s i) (byte_at s (i + 1)) e) (take-two s i (omega arith)) refl q)
      (λ _.
      by-test Then (is_three (byte_at s i) (byte_at s (i + 1)) (byte_at s (i + 2))) _ _
      (λ e q.
      let n : i + 3 ≡ next = cc in
      read_is (three_coded (byte_at s i) (byte_at s (i + 1)) (byte_at s (i + 2)) e) (take-three s i (omega arith)) refl q)
      (λ _.
      by-test Then (is_four (byte_at s i) (byte_at s (i + 1)) (byte_at s (i + 2)) (byte_at s (i + 3))) _ _
      (λ e q.
      let n : i + 4 ≡ next = cc in
      read_is (four_coded (byte_at s i) (byte_at s (i + 1)) (byte_at s (i + 2)) (byte_at s (i + 3)) e) (take-four s i (omega arith)) refl q)
      (λ _ q.
      let z : ◌≡◌ {A = ℕ} 0 1 = cc in
      absurd (omega arith))))
    where
      Then : Step → Type 0
      Then x = x ≡ Char code next → EncodedAt s i code next × (0x80 ≤ code)

  -- ---- Every encoding is read
  -- the first byte of an encoding, from 80 on where the code is
  module _ (e : EncodedAt s i code next) where
    ends_at : {bytes : List ℕ} → encoded code ≡ bytes → next ≡ i + length bytes
    ends_at q = e.stands.ends ∙ ap (λ (xs : List ℕ). i + length xs) q

    stands : {bytes : List ℕ} → encoded code ≡ bytes → take (length bytes) (drop i s) ≡ bytes
    stands q = rw q at e.stands.there

    read_one : code ≤ 0x7F → (byte_at s i ≡ code) × (next ≡ i + 1)
    read_one h =
        let q : encoded code ≡ code ∷ [] = encoded-one code h in
        (byte-first s i 0 (stands q), ends_at q)

    read-two : 0x7F < code → code ≤ 0x7FF → sequence_at s i ≡ Char code next
    unfolding sequence_at
    read-two l h =
        let q = encoded-two code l h in
        rw (byte-first s i 1 (stands q), byte_of s i 2 1 (stands q) (omega arith), ends_at q) (two-read i code _ _ l h)

    read-three : 0x7FF < code → code ≤ 0xFFFF → sequence_at s i ≡ Char code next
    unfolding sequence_at
    read-three l h =
        let q = encoded-three code l h in
        rw (byte-first s i 2 (stands q), byte_of s i 3 1 (stands q) (omega arith), byte_of s i 3 2 (stands q) (omega arith), ends_at q)
        (three-read i code _ l h e.scalar)

    read-four : 0xFFFF < code → sequence_at s i ≡ Char code next
    unfolding sequence_at
    read-four l =
        let q = encoded-four code l in
        rw (byte-first s i 3 (stands q), byte_of s i 4 1 (stands q) (omega arith), byte_of s i 4 2 (stands q) (omega arith), byte_of s i 4 3 (stands q) (omega arith), ends_at q)
        (four-read i code l e.scalar)

    pub encoding-read : 0x7F < code → sequence_at s i ≡ Char code next
    encoding-read l = go (dec_le code 0x7FF) (dec_le code 0xFFFF)
      where
        go : Dec (code ≤ 0x7FF) → Dec (code ≤ 0xFFFF) → sequence_at s i ≡ Char code next
        go (yes h) d = read-two l h
        go (no n) (yes h) = read-three (omega arith) h
        go (no n) (no m) = read-four (omega arith)

    -- its first byte is from 80 on too
    first-high : 0x7F < code → 0x80 ≤ byte_at s i
    first-high l = go (dec_le code 0x7FF) (dec_le code 0xFFFF)
      where
        go : Dec (code ≤ 0x7FF) → Dec (code ≤ 0xFFFF) → 0x80 ≤ byte_at s i
        go (yes h) d = omega (arith, byte-first s i 1 (stands (encoded-two code l h)))
        go (no n) (yes h) = omega (arith, byte-first s i 2 (stands (encoded-three code (omega arith) h)))
        go (no n) (no m) = omega (arith, byte-first s i 3 (stands (encoded-four code (omega arith))))

-- ---- A step, by its first byte
module _ (s : List ℕ) (i : ℕ) where
  step-plain : 0x20 ≤ byte_at s i → (byte_at s i ≡ 0x22 → ⊥) → (byte_at s i ≡ 0x5C → ⊥) → byte_at s i < 0x80 → step_at s i ≡ Char (byte_at s i) (i + 1)
  unfolding step_at
  step-plain l q b h = rw (le-ltb (byte_at s i) 32 l, ne_eqb (byte_at s i) 34 q, ne_eqb (byte_at s i) 92 b, lt-ltb (byte_at s i) 128 h)

  step-sequence : 0x80 ≤ byte_at s i → step_at s i ≡ sequence_at s i
  unfolding step_at
  step-sequence h =
      rw (le-ltb (byte_at s i) 32 (omega arith), ne_eqb (byte_at s i) 34 (omega arith), ne_eqb (byte_at s i) 92 (omega arith), le-ltb (byte_at s i) 128 h)

  step-escape : byte_at s i ≡ 0x5C → step_at s i ≡ escape_at s i
  unfolding step_at
  step-escape e = rw (le-ltb (byte_at s i) 32 (omega arith), ne_eqb (byte_at s i) 34 (omega arith), eq-eqb (byte_at s i) 92 e)

  -- what a step is: a fault at a control, the closing quote, an escape, a byte for itself, or a sequence
  pub by_first : (P : Step → Type 0) → (byte_at s i < 0x20 → P (Bad 11 i)) → (byte_at s i ≡ 0x22 → P Close) → (byte_at s i ≡ 0x5C → P (escape_at s i)) → (0x20 ≤ byte_at s i → (byte_at s i ≡ 0x22 → ⊥) → (byte_at s i ≡ 0x5C → ⊥) → byte_at s i < 0x80 → P (Char (byte_at s i) (i + 1))) → (0x80 ≤ byte_at s i → P (sequence_at s i)) → P (step_at s i)
  unfolding step_at
  by_first P control quote escape plain long =
      by-test P (ltb (byte_at s i) 32) _ _ (λ e. control (ltb-true (byte_at s i) 32 e))
      (λ l.
      by-test P (eqb (byte_at s i) 34) _ _ (λ e. quote (eqb-true (byte_at s i) 34 e))
      (λ q.
      by-test P (eqb (byte_at s i) 92) _ _ (λ e. escape (eqb-true (byte_at s i) 92 e))
      (λ b.
      by-test P (ltb (byte_at s i) 128) _ _
      (λ h. plain (ltb-false (byte_at s i) 32 l) (eqb-false (byte_at s i) 34 q) (eqb-false (byte_at s i) 92 b) (ltb-true (byte_at s i) 128 h))
      (λ h. long (ltb-false (byte_at s i) 128 h)))))

  -- ---- What stands as itself
  module _ (code next : ℕ) where
    -- a byte below 80 is its own encoding
    plain-raw : i < length s → 0x20 ≤ byte_at s i → (byte_at s i ≡ 0x22 → ⊥) → (byte_at s i ≡ 0x5C → ⊥) → byte_at s i < 0x80 → Char (byte_at s i) (i + 1) ≡ Char code next → Raw s i code next
    plain-raw inside l q b h e =
        let codes : byte_at s i ≡ code = cc in
        let ends : i + 1 ≡ next = cc in
        let spelled : encoded code ≡ code ∷ [] = encoded-one code (omega arith) in
        record {
          encoding = record {
            scalar = (scalar-says code).1 (omega arith, inl (omega arith));
            stands = rw spelled (record { there = take-one s i (omega arith) ∙ ap (λ (x : ℕ). x ∷ []) codes; ends = sym ends });
          };
          no-control = omega arith;
          no-quote = λ z. q (codes ∙ z);
          no-backslash = λ z. b (codes ∙ z);
        }

    long-raw : next ≤ length s → sequence_at s i ≡ Char code next → Raw s i code next
    long-raw l e =
        let w = sequence-encoded s i code next l e in
        record { encoding = w.0; no-control = omega (arith, w.1); no-quote = λ z. omega (arith, w.1); no-backslash = λ z. omega (arith, w.1) }

    read-raw : step_at s i ≡ Char code next → (byte_at s i ≡ 0x5C → ⊥) → Raw s i code next
    read-raw e n =
        by_first (λ x. x ≡ step_at s i → x ≡ Char code next → Raw s i code next)
        (λ _ _ q. absurd (apart q))
        (λ _ _ q.
        let z : ◌≡◌ {A = ℕ} 0 1 = cc in
        absurd (omega arith))
        (λ b _ _. absurd (n b))
        (λ l q b h _ f. plain-raw (inside s i (byte_at s i) refl (omega arith)) l q b h f)
        (λ h f g. long-raw (rw (sym f ∙ g) at (step-good s i (omega (arith, inside s i (byte_at s i) refl (omega arith))))).1 g)
        refl e
      where
        apart : Bad 11 i ≡ Char code next → ⊥
        apart q =
            let z : ◌≡◌ {A = ℕ} 0 1 = cc in
            omega arith

    raw-read : Raw s i code next → (step_at s i ≡ Char code next) × (byte_at s i ≡ 0x5C → ⊥)
    raw-read r = go (dec_le code 0x7F)
      where
        go : Dec (code ≤ 0x7F) → (step_at s i ≡ Char code next) × (byte_at s i ≡ 0x5C → ⊥)
        go (yes h) =
            let w = read_one s i code next r.encoding h in
            let q : byte_at s i ≡ 0x22 → ⊥ = λ z. r.no-quote (sym w.0 ∙ z) in
            let b : byte_at s i ≡ 0x5C → ⊥ = λ z. r.no-backslash (sym w.0 ∙ z) in
            (step-plain (omega (arith, r.no-control, w.0)) q b (omega (arith, w.0)) ∙ rw (w.0, w.1), b)
        go (no l) =
            let h = first-high s i code next r.encoding (omega arith) in
            (step-sequence h ∙ encoding-read s i code next r.encoding (omega arith), λ z. omega arith)

    -- what is read as a character without an escape is the Standard's encoding of its code, and every such encoding of a character
    -- that may stand for itself is read
    pub raw-character : ((step_at s i ≡ Char code next) × (byte_at s i ≡ 0x5C → ⊥)) ↔ Raw s i code next
    raw-character = (λ h. read-raw h.0 h.1, raw-read)

-- no code has two sequences: wherever a character stands for itself, the same bytes stand
pub one-sequence : (s : List ℕ) (i m : ℕ) (t : List ℕ) (j n code : ℕ) → Raw s i code m → Raw t j code n → take (m - i) (drop i s) ≡ take (n - j) (drop j t)
one-sequence s i m t j n code a b = spelled s i m a.encoding ∙ sym (spelled t j n b.encoding)
  where
    spelled : (u : List ℕ) (k x : ℕ) → EncodedAt u k code x → take (x - k) (drop k u) ≡ encoded code
    spelled u k x e =
        let size : x - k ≡ length (encoded code) = omega (arith, e.stands.ends) in
        rw size e.stands.there

-- ---- Escapes
module _ (s : List ℕ) (i : ℕ) where
  -- four digits make a unit of sixteen bits, or a fault
  unit-small : {u : ℕ} → unit_at s i ≡ Ok u → u ≤ 0xFFFF
  unfolding unit_at
  unit-small {u} =
      by-test Then (ltb (digit_at s i) 16) _ _
      (λ a.
      by-test Then (ltb (digit_at s (i + 1)) 16) _ _
      (λ b.
      by-test Then (ltb (digit_at s (i + 2)) 16) _ _
      (λ c.
      by-test Then (ltb (digit_at s (i + 3)) 16) _ _
      (λ d q.
      let same : digit_at s i * 4096 + digit_at s (i + 1) * 256 + digit_at s (i + 2) * 16 + digit_at s (i + 3) ≡ u = cc in
      omega (arith, ltb-true (digit_at s i) 16 a, ltb-true (digit_at s (i + 1)) 16 b, ltb-true (digit_at s (i + 2)) 16 c, ltb-true (digit_at s (i + 3)) 16 d))
      (λ _. none))
      (λ _. none))
      (λ _. none))
      (λ _. none)
    where
      Then : Unit16 → Type 0
      Then x = x ≡ Ok u → u ≤ 0xFFFF

      none : {p : ℕ} → Then (Err p)
      none q =
          let z : ◌≡◌ {A = ℕ} 0 1 = cc in
          absurd (omega arith)

letter-small : (b : ℕ) → letter_escape b ≤ 0x5C
unfolding letter_escape
letter-small b =
    one 34 34 (omega arith) (one 92 92 (omega arith) (one 47 47 (omega arith) (one 98 8 (omega arith)
    (one 102 12 (omega arith) (one 110 10 (omega arith) (one 114 13 (omega arith) (one 116 9 (omega arith) (omega arith))))))))
  where
    one : (x y : ℕ) → y ≤ 0x5C → {rest : ℕ} → rest ≤ 0x5C → cond (eqb b x) y rest ≤ 0x5C
    one x y l {rest} h = by-test (λ n. n ≤ 0x5C) (eqb b x) y rest (λ _. l) (λ _. h)

module _ (s : List ℕ) (i : ℕ) where
  -- what an escape is: a fault, a pair, a unit for itself, or a letter
  pub by-escape : (P : Step → Type 0) → ((place : ℕ) → P (Bad 11 place)) → ((u : ℕ) → is_pair u (escaped_at s (i + 6)) ≡ true → P (Char (0x10000 + (u - 0xD800) * 1024 + (escaped_at s (i + 6) - 0xDC00)) (i + 12))) → ((u : ℕ) → byte_at s (i + 1) ≡ 0x75 → unit_at s (i + 2) ≡ Ok u → is_pair u (escaped_at s (i + 6)) ≡ false → P (Char u (i + 6))) → P (Char (letter_escape (byte_at s (i + 1))) (i + 2)) → P (escape_at s i)
  unfolding escape_at surrogates_joined
  by-escape P fault pair unit letter =
      by-test P (eqb (byte_at s (i + 1)) 117) _ _
      (λ e. by-unit (unit_at s (i + 2)) refl (eqb-true (byte_at s (i + 1)) 117 e))
      (λ _. by-test P (ltb 0 (letter_escape (byte_at s (i + 1)))) _ _ (λ _. letter) (λ _. fault (i + 1)))
    where
      by-unit : (x : Unit16) → unit_at s (i + 2) ≡ x → byte_at s (i + 1) ≡ 0x75 → P (surrogates_joined s i x)
      by-unit (Err p) q e = fault p
      by-unit (Ok u) q e = by-test P (is_pair u (escaped_at s (i + 6))) _ _ (λ t. pair u t) (λ t. unit u e q t)

  module _ (code next : ℕ) where
    Known : Type 0
    Known = (is_scalar code ≡ true) ⊎ Unpaired s i code next

    pair_code : (u : ℕ) → is_pair u (escaped_at s (i + 6)) ≡ true → 0x10000 + (u - 0xD800) * 1024 + (escaped_at s (i + 6) - 0xDC00) ≡ code → is_scalar code ≡ true
    pair_code u t e =
        let low : ℕ = escaped_at s (i + 6) in
        let high = pair-high u low t in
        let behind = pair-low u low t in
        (scalar-says code).1
        (omega (arith, within-to 0xD800 0xDBFF u high, within-to 0xDC00 0xDFFF low behind), inr (omega arith))

    unit-code : (u : ℕ) → byte_at s i ≡ 0x5C → byte_at s (i + 1) ≡ 0x75 → unit_at s (i + 2) ≡ Ok u → is_pair u (escaped_at s (i + 6)) ≡ false → Char u (i + 6) ≡ Char code next → Known
    unfolding Known is_surrogate
    unit-code u b e q t f = go (within 0xD800 0xDFFF code) refl
      where
        codes : u ≡ code
        codes = cc

        ends : next ≡ i + 6
        ends = cc

        go : (x : Bool) → within 0xD800 0xDFFF code ≡ x → Known
        go true w = inr (record { surrogate = w; backslash = b; letter = e; digits = rw codes at q; alone = rw codes at t; ends = ends })
        go false w = inl ((scalar-says code).1 (omega (arith, codes, unit-small s (i + 2) q), outside 0xD800 0xDFFF code w))

    escape-code : byte_at s i ≡ 0x5C → escape_at s i ≡ Char code next → Known
    unfolding Known
    escape-code b =
        by-escape (λ x. x ≡ Char code next → Known)
        (λ p q.
        let z : ◌≡◌ {A = ℕ} 0 1 = cc in
        absurd (omega arith))
        (λ u t q. inl (pair_code u t (cc)))
        (λ u e q t f. unit-code u b e q t f)
        (λ q.
        let codes : letter_escape (byte_at s (i + 1)) ≡ code = cc in
        let small : code ≤ 0x5C = omega (arith, letter-small (byte_at s (i + 1))) in
        inl ((scalar-says code).1 (omega arith, inl (omega arith))))

-- ---- The laws
module _ (s : List ℕ) (i : ℕ) where
  -- the code of a character is a scalar value or, from an escape alone, an unpaired surrogate
  pub step-code : (code next : ℕ) → step_at s i ≡ Char code next → (is_scalar code ≡ true) ⊎ Unpaired s i code next
  unfolding Known
  step-code code next e = go (ℕ_discrete (byte_at s i) 0x5C)
    where
      go : Dec (byte_at s i ≡ 0x5C) → (is_scalar code ≡ true) ⊎ Unpaired s i code next
      go (yes b) = escape-code s i code next b (sym (step-escape s i b) ∙ e)
      go (no n) = inl ((raw-character s i code next).0 (e, n)).encoding.scalar

  -- the two exclude each other
  pub unpaired-no-scalar : (code next : ℕ) → Unpaired s i code next → is_scalar code ≡ true → ⊥
  unfolding is_surrogate
  unpaired-no-scalar code next u e =
      let from = within-from 0xD800 0xDFFF code u.surrogate in
      let to = within-to 0xD800 0xDFFF code u.surrogate in
      ⊎_elim (λ l. omega arith) (λ l. omega arith) ((scalar-says code).0 e).1

  -- a sequence is a character or kind 10 at its first byte
  pub sequence-either : (sequence_at s i ≡ Bad 10 i) ⊎ ((code : ℕ) × (next : ℕ) × (sequence_at s i ≡ Char code next))
  unfolding sequence_at sequence_of
  sequence-either =
      by-test Either (is_two (byte_at s i) (byte_at s (i + 1))) _ _ (λ _. inr (_, _, refl))
      (λ _.
      by-test Either (is_three (byte_at s i) (byte_at s (i + 1)) (byte_at s (i + 2))) _ _ (λ _. inr (_, _, refl))
      (λ _.
      by-test Either (is_four (byte_at s i) (byte_at s (i + 1)) (byte_at s (i + 2)) (byte_at s (i + 3))) _ _ (λ _. inr (_, _, refl)) (λ _. inl refl)))
    where
      Either : Step → Type 0
      Either x = (x ≡ Bad 10 i) ⊎ ((code : ℕ) × (next : ℕ) × (x ≡ Char code next))

  -- where a byte from 80 on begins an encoding, it is read; so a sequence that is refused is none
  refused_none : 0x80 ≤ byte_at s i → sequence_at s i ≡ Bad 10 i → (code next : ℕ) → EncodedAt s i code next → ⊥
  refused_none l e code next w = go (dec_le code 0x7F)
    where
      go : Dec (code ≤ 0x7F) → ⊥
      go (yes h) = omega (arith, (read_one s i code next w h).0)
      go (no n) =
          let f = encoding-read s i code next w (omega arith) in
          let z : ◌≡◌ {A = ℕ} 0 1 = cc in
          omega arith

  read-refused : (place : ℕ) → step_at s i ≡ Bad 10 place → (place ≡ i) × (0x80 ≤ byte_at s i) × ((code next : ℕ) → EncodedAt s i code next → ⊥)
  read-refused place =
      by_first s i Then
      (λ _ q. absurd (eleven q))
      (λ _ q.
      let z : ◌≡◌ {A = ℕ} 0 1 = cc in
      absurd (omega arith))
      (λ _. by-escape s i Then (λ p q. absurd (eleven q)) (λ u _ q. absurd (char q)) (λ u _ _ _ q. absurd (char q)) (λ q. absurd (char q)))
      (λ _ _ _ _ q. absurd (char q))
      (λ l q.
      ⊎_elim
      (λ b.
      let here : place ≡ i = cc in
      (here, l, refused_none l b))
      (λ c. absurd (char (sym c.2 ∙ q)))
      sequence-either)
    where
      Then : Step → Type 0
      Then x = x ≡ Bad 10 place → (place ≡ i) × (0x80 ≤ byte_at s i) × ((code next : ℕ) → EncodedAt s i code next → ⊥)

      eleven : {p : ℕ} → Bad 11 p ≡ Bad 10 place → ⊥
      eleven q =
          let z : ◌≡◌ {A = ℕ} 11 10 = cc in
          omega arith

      char : {code next : ℕ} → Char code next ≡ Bad 10 place → ⊥
      char q =
          let z : ◌≡◌ {A = ℕ} 0 1 = cc in
          omega arith

  none-refused : 0x80 ≤ byte_at s i → ((code next : ℕ) → EncodedAt s i code next → ⊥) → step_at s i ≡ Bad 10 i
  none-refused l none =
      ⊎_elim
      (λ b. step-sequence s i l ∙ b)
      (λ c. absurd (none c.0 c.1 ((raw-character s i c.0 c.1).0 (step-sequence s i l ∙ c.2, λ z. omega arith)).encoding))
      sequence-either

  -- kind 10, ill-formed UTF-8: exactly where a byte from 80 on begins the encoding of no scalar value, and there
  pub ill-formed : (place : ℕ) → (step_at s i ≡ Bad 10 place) ↔ ((place ≡ i) × (0x80 ≤ byte_at s i) × ((code next : ℕ) → EncodedAt s i code next → ⊥))
  ill-formed place = (read-refused place, λ h. rw h.0 (none-refused h.1 h.2))
