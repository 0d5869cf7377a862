-- The number reader reads the numbers of the grammar: along the machine, part by part in the order of both; and by itself.
-- Assumes nothing.
use Rattle.std.specs.Prelude.{Ok}
use Prim.Native.Nat.{ℕ, suc, ◌+◌, ◌≤◌, ◌<◌}
use mathlib.Core.Path.{◌≡◌, refl, sym, ◌∙◌}
use mathlib.Core.Bool.{Bool, true, false, cond}
use mathlib.Core.List.{[], ◌∷◌, ◌++◌}
use native.Mathlib.Decide.{dec_le}
use native.Mathlib.Omega.{arith}
use borrow.Author.Tests.{eqb-true, eqb-false, eq-eqb, ne_eqb}
use lib.Dec.{eqb}
use lib.ListN.{length, drop}
use Rattle.json_bytes.specs.Reads.{byte_at, within, leading, fault_at}
use Rattle.json_bytes.proofs.Laws.{by-test, inside, within-from, within-to, run_more, run-stops, run_ends}
use Rattle.json_number.specs.Number.{is_digit, digits_at, fraction_at, coefficient_at, power_digits_at, signed_at, exponent_at, with_exponent, with_coefficient, number_at}
use Rattle.json_number.specs.declared.Number.{Number as NumberRead}
use Rattle.grammar.specs.Grammar
use Rattle.grammar.specs.Grammar.{Bytes, From, Number}
use Rattle.grammar.specs.Claims.{StopsAt, Longest, Only}
use Rattle.grammar_machine.proofs.Machine.{one, minus, whole, digits, fraction, exponent, sign, Stack, a_number, rows, Push, Skip, Stuck, row_of, move_of, expand, ends, verdict}
use Rattle.grammar_machine.proofs.Complete.{in-range, outside, one-row, whole_row, quiet-end, number-run}
use Rattle.grammar_machine.proofs.Places.{At, at-start, push-in, push_at, onto, skip_at, Reads}
use Rattle.grammar_machine.proofs.Tokens.{Stopped, stop, Answers, Ran, run_at, whole-token, fault-token, read-token}

-- ---- Digits
digit-move : (b : ℕ) → expand digits b ≡ cond (is_digit b) (Push (digits ∷ [])) Skip
unfolding row_of is_digit
digit-move b = go (within 48 57 b)
  where
    go : (t : Bool) → move_of (rows digits) true (elim t [ true ↦ 0 | false ↦ suc 0 ]) ≡ cond t (Push (digits ∷ [])) Skip
    go true = refl
    go false = refl

digit-push : (b : ℕ) → is_digit b ≡ true → expand digits b ≡ Push (digits ∷ [])
digit-push b e = digit-move b ∙ rw e

digit-skip : (b : ℕ) → is_digit b ≡ false → expand digits b ≡ Skip
digit-skip b e = digit-move b ∙ rw e

-- how many digits there are, by the first byte
digits-none : (s : Bytes) (i : ℕ) → is_digit (byte_at s i) ≡ false → digits_at s i ≡ 0
digits-none s i e = go (dec_le (length s) i)
  where
    go : Dec (length s ≤ i) → digits_at s i ≡ 0
    go (yes l) = omega (arith, run_ends is_digit s i l)
    go (no l) = omega (arith, run-stops is_digit s i (omega arith) e)

digit-range : (b : ℕ) → is_digit b ≡ true → From 0x30 0x39 b
unfolding is_digit
digit-range b e = (within-from 48 57 b e, within-to 48 57 b e)

no-digit-range : (b : ℕ) → is_digit b ≡ false → From 0x30 0x39 b → ⊥
unfolding is_digit
no-digit-range b e h =
    let t : within 48 57 b ≡ true = in-range 48 57 b h in
    let z : ◌≡◌ {A = ℕ} 0 1 = cc in
    omega arith

-- the first digit of a number
first-digit : (b : ℕ) → is_digit b ≡ true → eqb b 48 ≡ false → expand whole b ≡ Push (digits ∷ [])
first-digit b e n = whole_row {d = b} (omega (arith, digit-range b e, eqb-false b 48 n))

no_whole : (b : ℕ) → is_digit b ≡ false → expand whole b ≡ Stuck
unfolding row_of
no_whole b e =
    rw (row_of, ne_eqb b 48 (λ q. no-digit-range b e (omega arith)), outside 49 57 b (λ h. no-digit-range b e (omega arith)))

module _ (s : Bytes) (i : ℕ) (e : is_digit (byte_at s i) ≡ true) where
  digit-inside : i < length s
  digit-inside = inside s i (byte_at s i) refl (omega (arith, digit-range (byte_at s i) e))

  digits-some : (i + 1) + digits_at s (i + 1) ≡ i + digits_at s i
  digits-some = sym (run_more is_digit s i digit-inside e)

-- whether there are digits, as the reader asks it
if-digits : (s : Bytes) {A : Type 0} (P : A → Type 0) (i : ℕ) (x y : A) → (is_digit (byte_at s i) ≡ false → P x) → (is_digit (byte_at s i) ≡ true → P y) → P (cond (eqb (digits_at s i) 0) x y)
if-digits s P i x y f g = go (is_digit (byte_at s i)) refl
  where
    go : (t : Bool) → is_digit (byte_at s i) ≡ t → P (cond (eqb (digits_at s i) 0) x y)
    go true e = rw (ne_eqb (digits_at s i) 0 (omega (arith, digits-some s i e))) (g e)
    go false e = rw (eq-eqb (digits_at s i) 0 (digits-none s i e)) (f e)

-- ---- Along the machine
module _ {K₀ : Stack} {start : ℕ} {s : Bytes} where
  -- the digits behind a digit
  digits-at : (K : Stack) {i : ℕ} → At K₀ start s (digits ∷ K) i → At K₀ start s K (i + digits_at s i)
  unfolding is_digit within
  digits-at K {i} a =
      let r : Ran K₀ start s is_digit (digits ∷ K) (i + leading is_digit (drop i s)) = run_at is_digit digits K refl digit-push i a in
      skip_at digits K (digit-skip _ r.ended) r.here

  behind-digit : (K : Stack) (i : ℕ) → is_digit (byte_at s i) ≡ true → At K₀ start s (digits ∷ K) (i + 1) → At K₀ start s K (i + digits_at s i)
  behind-digit K i e a = rw (digits-some s i e) at (digits-at K a)

  -- at least one digit
  some-digits : (K : Stack) {i : ℕ} → is_digit (byte_at s i) ≡ true → At K₀ start s (one 0x30 9 ∷ digits ∷ K) i → At K₀ start s K (i + digits_at s i)
  some-digits K {i} e a =
      behind-digit K i e
      (push-in (one 0x30 9) (digits ∷ K) [] (byte_at s i) refl (digit-inside s i e) (one-row 0x30 9 (byte_at s i) (digit-range (byte_at s i) e)) a)

  no_digit : (K : Stack) {i : ℕ} → is_digit (byte_at s i) ≡ false → At K₀ start s (one 0x30 9 ∷ K) i → Stopped K₀ start s i
  unfolding row_of is_digit
  no_digit K {i} e a = stop (one 0x30 9) K (rw (row_of, e)) a

  module _ (K : Stack) (negative : Bool) where
    module _ (c zeros places : ℕ) where
      power_at : (i : ℕ) (below : Bool) → At K₀ start s (one 0x30 9 ∷ digits ∷ K) i → Answers K₀ start s K (with_exponent negative c zeros places (power_digits_at s i below)).reading
      unfolding with_exponent power_digits_at
      power_at i below a =
          if-digits s (λ x. Answers K₀ start s K (with_exponent negative c zeros places x).reading) i _ _
          (λ e. (refl, no_digit (digits ∷ K) e a))
          (λ e. some-digits K e a)

      signed-at : (i : ℕ) → At K₀ start s (sign ∷ one 0x30 9 ∷ digits ∷ K) i → Answers K₀ start s K (with_exponent negative c zeros places (signed_at s i)).reading
      unfolding signed_at row_of
      signed-at i a =
          by-test (λ x. Answers K₀ start s K (with_exponent negative c zeros places x).reading) (eqb (byte_at s i) 45) _ _
          (λ e. power_at (i + 1) true (push_at sign (one 0x30 9 ∷ digits ∷ K) [] 45 (eqb-true _ 45 e) (omega arith) refl a))
          (λ n. by-test (λ x. Answers K₀ start s K (with_exponent negative c zeros places x).reading) (eqb (byte_at s i) 43) _ _
          (λ e. power_at (i + 1) false (push_at sign (one 0x30 9 ∷ digits ∷ K) [] 43 (eqb-true _ 43 e) (omega arith) refl a))
          (λ m. power_at i false (skip_at sign (one 0x30 9 ∷ digits ∷ K) (rw (row_of, m, n)) a)))

      exponent-at : (i : ℕ) → At K₀ start s (exponent ∷ K) i → Answers K₀ start s K (with_exponent negative c zeros places (exponent_at s i)).reading
      unfolding exponent_at with_exponent row_of
      exponent-at i a = go (eqb (byte_at s i) 101) (eqb (byte_at s i) 69) refl refl
        where
          go : (t u : Bool) → eqb (byte_at s i) 101 ≡ t → eqb (byte_at s i) 69 ≡ u → Answers K₀ start s K (with_exponent negative c zeros places (exponent_at s i)).reading
          go true u e f =
              rw (exponent_at, e) (signed-at (i + 1) (push_at exponent K (sign ∷ one 0x30 9 ∷ digits ∷ []) 101 (eqb-true _ 101 e) (omega arith) refl a))
          go false true e f =
              rw (exponent_at, e, f) (signed-at (i + 1) (push_at exponent K (sign ∷ one 0x30 9 ∷ digits ∷ []) 69 (eqb-true _ 69 f) (omega arith) refl a))
          go false false e f = rw (exponent_at, e, f) (skip_at exponent K (rw (row_of, e, f)) a)

    fraction-at : (i c : ℕ) → At K₀ start s (fraction ∷ exponent ∷ K) i → Answers K₀ start s K (with_coefficient s negative (fraction_at s i c)).reading
    unfolding fraction_at with_coefficient row_of
    fraction-at i c a =
        by-test (λ x. Answers K₀ start s K (with_coefficient s negative x).reading) (eqb (byte_at s i) 46) _ _
        (λ e. let b : At K₀ start s (one 0x30 9 ∷ digits ∷ exponent ∷ K) (i + 1) = push_at fraction (exponent ∷ K) (one 0x30 9 ∷ digits ∷ []) 46 (eqb-true _ 46 e) (omega arith) refl a in
        if-digits s (λ x. Answers K₀ start s K (with_coefficient s negative x).reading) (i + 1) _ _
        (λ n. (refl, no_digit (digits ∷ exponent ∷ K) n b))
        (λ d. exponent-at _ _ _ (i + 1 + digits_at s (i + 1)) (some-digits (exponent ∷ K) d b)))
        (λ n. exponent-at _ _ _ i (skip_at fraction (exponent ∷ K) (rw (row_of, n)) a))

    coefficient-at : (i : ℕ) → At K₀ start s (whole ∷ fraction ∷ exponent ∷ K) i → Answers K₀ start s K (with_coefficient s negative (coefficient_at s i)).reading
    unfolding coefficient_at with_coefficient row_of
    coefficient-at i a =
        by-test (λ x. Answers K₀ start s K (with_coefficient s negative x).reading) (eqb (byte_at s i) 48) _ _
        (λ e. fraction-at _ _ (onto (omega arith) (push_at whole (fraction ∷ exponent ∷ K) [] 48 (eqb-true _ 48 e) (omega arith) refl a)))
        (λ n. if-digits s (λ x. Answers K₀ start s K (with_coefficient s negative x).reading) i _ _
        (λ m. (refl, stop whole (fraction ∷ exponent ∷ K) (no_whole (byte_at s i) m) a))
        (λ d. fraction-at (i + digits_at s i) _ (behind-digit (fraction ∷ exponent ∷ K) i d
        (push-in whole (fraction ∷ exponent ∷ K) (digits ∷ []) (byte_at s i) refl (digit-inside s i d) (first-digit (byte_at s i) d n) a))))

  pub number-at : (K : Stack) (at : ℕ) → At K₀ start s (a_number ++ K) at → Answers K₀ start s K (number_at s at).reading
  unfolding number_at row_of
  number-at K at a =
      by-test (λ (x : NumberRead). Answers K₀ start s K x.reading) (eqb (byte_at s at) 45) _ _
      (λ e. coefficient-at K true (at + 1) (push_at minus (whole ∷ fraction ∷ exponent ∷ K) [] 45 (eqb-true _ 45 e) (omega arith) refl a))
      (λ n. coefficient-at K false at (skip_at minus (whole ∷ fraction ∷ exponent ∷ K) (rw (row_of, n)) a))

-- ---- Numbers by themselves
number-reads : Reads a_number (Only Number)
unfolding verdict ends
number-reads =
    record {
      complete = λ l h. number-run h quiet-end [];
      sound = λ l w. rw w.2.2.2.2 at (Grammar.parts w.1 w.2.1 w.2.2.1 w.2.2.2.1);
    }

module _ (s : Bytes) (at : ℕ) (inside : at ≤ length s) where
  number-answers : Answers a_number at s [] (number_at s at).reading
  number-answers = number-at [] at (at-start a_number at s inside)

  -- read whole, it is a number, and no number goes on with the next byte
  pub number-whole : {end : ℕ} → (number_at s at).reading ≡ Ok end → Longest (Only Number) s at end
  number-whole e = whole-token number-reads s at (rw e at number-answers)

  -- a fault is 11, at the first byte with which none goes on
  pub number-fault : {kind place : ℕ} → (number_at s at).reading ≡ fault_at kind place → (kind ≡ 11) × StopsAt (Only Number) s at place
  number-fault e =
      let a : Answers a_number at s [] (fault_at _ _) = rw e at number-answers in
      (a.0, fault-token number-reads s at a.1)

  -- what is a number, and no byte that could lengthen it follows, is read whole
  pub number_read : {end : ℕ} → at ≤ end → end ≤ length s → Longest (Only Number) s at end → (number_at s at).reading ≡ Ok end
  number_read l m x = read-token number-reads s at l m x (number_at s at).reading number-answers
