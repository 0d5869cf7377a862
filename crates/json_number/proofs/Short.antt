-- A number of at most fifteen digits and no exponent: it is read whole, and its value is within the limits.
-- Assumes nothing.
use Rattle.std.specs.Prelude.{Ok}
use Prim.Native.Nat.{ℕ, suc, ◌+◌, ◌*◌, ◌-◌, ◌^◌, ◌≤◌, ◌<◌}
use mathlib.Core.Path.{◌≡◌, refl, sym, ap, ◌∙◌}
use mathlib.Core.Bool.{Bool, true, false, cond, not, ◌||◌, false≢true}
use mathlib.Core.List.{List, [], ◌∷◌}
use native.Mathlib.Nat.{add-zero, zero-add, pow-suc, pow-le-pow_right, mul-le-mul, div-le_self}
use native.Mathlib.Decide.{ℕ_discrete, dec_le}
use native.Mathlib.Omega.{arith}
use borrow.Author.Tests.{eq-eqb, ne_eqb, lt-ltb, le-ltb, eqb-true, eqb-false, ltb-false, not-true}
use lib.ListN.{length, drop}
use lib.Dec.{eqb, ltb, lit<}
use Rattle.json_bytes.specs.Reads.{byte_at, leading}
use Rattle.json_bytes.proofs.Laws.{run_more, run-stops, run_ends}
use Rattle.json_number.specs.Number.{is_digit, digits_at, formed, end_zeros, trimmed, trimmed_at, fraction_at, coefficient_at, exponent_at, value_of, with_exponent, with_coefficient, number_at}
use Rattle.json_number.specs.Short.{behind_sign, is_short, unless_raised, short_behind, short_from, short_end}
use Rattle.json_number.specs.declared.Coefficient.TheVariants.{NoDigit}
use Rattle.json_number.specs.declared.Exponent.TheVariants.{Power}
use Rattle.json_number.specs.declared.Value.TheVariants.{Fits}
use Rattle.json_number.specs.declared.Number.{Number}
use Rattle.json_number.proofs.Trim.{trims, trimmed-zero}
use Rattle.json_number.proofs.Digits.{digit-range, run_none, run-some}
use Rattle.json_number.proofs.Limits.{limited-fits, value-zero, value-above}
use Rattle.json_number.proofs.Parts.{some-digits, letter-none}
use Rattle.json_number.proofs.Alone.{digit-inside, digit-coefficient}

-- ---- What decides where a short number ends
-- by the byte b where its point would stand
module _ (s : List ℕ) (from i b : ℕ) (is : b ≡ byte_at s i) where
  pub short-whole : (b ≡ 46 → ⊥) → short_behind s from i ≡ unless_raised s i
  unfolding short_behind
  short-whole n = rw (← is, ne_eqb b 46 n)

  module _ (point : b ≡ 46) {end : ℕ} (r : end ≡ i + 1 + digits_at s (i + 1)) where
    pub short-empty : end ≡ i + 1 → short_behind s from i ≡ 0
    unfolding short_behind
    short-empty h = rw (← is, eq-eqb b 46 point, run_none (digits_at s (i + 1)) r h)

    pub short-too-long : (end ≡ i + 1 → ⊥) → 16 < end - from → short_behind s from i ≡ 0
    unfolding short_behind
    short-too-long h l = rw (← is, eq-eqb b 46 point, run-some (digits_at s (i + 1)) r h, ← r, lt-ltb 16 (end - from) l)

    pub short-fraction : (end ≡ i + 1 → ⊥) → end - from ≤ 16 → short_behind s from i ≡ unless_raised s end
    unfolding short_behind
    short-fraction h l = rw (← is, eq-eqb b 46 point, run-some (digits_at s (i + 1)) r h, ← r, le-ltb 16 (end - from) l)

-- by the test t of its digits before the point
module _ (s : List ℕ) (at : ℕ) {from whole : ℕ} {t : Bool} (f : from ≡ behind_sign s at) (w : whole ≡ from + digits_at s from) (is : t ≡ is_short s from (whole - from)) where
  tested : is_short s from (digits_at s from) ≡ t
  tested =
      let n : digits_at s from ≡ whole - from = omega arith in
      ap (is_short s from) n ∙ sym is

  pub short-stands : t ≡ true → short_end s at ≡ short_behind s from whole
  unfolding short_end short_from
  short-stands e = rw (← f, tested ∙ e, ← w)

  pub short_none : t ≡ false → short_end s at ≡ 0
  unfolding short_end short_from
  short_none e = rw (← f, tested ∙ e)

-- ---- Digits form a number below the power of ten that has as many zeros
formed_below : (l : List ℕ) (n m : ℕ) → n < 10 ^ m → formed n l < 10 ^ (m + leading is_digit l)
unfolding formed leading
formed_below [] n m h = rw (add-zero m) h
formed_below (b ∷ bs) n m h = go (is_digit b) refl (formed_below bs (n * 10 + (b - 48)) (suc m))
  where
    go : (t : Bool) → is_digit b ≡ t → (n * 10 + (b - 48) < 10 ^ suc m → formed (n * 10 + (b - 48)) bs < 10 ^ (suc m + leading is_digit bs)) → (elim t [ true ↦ formed (n * 10 + (b - 48)) bs | false ↦ n ]) < 10 ^ (m + (elim t [ true ↦ suc (leading is_digit bs) | false ↦ 0 ]))
    go true e f =
        let more : n * 10 + (b - 48) < 10 ^ suc m = rw (pow-suc 10 m) (omega (arith, (digit-range b e).1)) in
        let same : suc m + leading is_digit bs ≡ m + suc (leading is_digit bs) = omega arith in
        rw same at (f more)
    go false e f = rw (add-zero m) h

module _ (s : List ℕ) (i : ℕ) where
  -- the first of them
  first-digit : (digits_at s i ≡ 0 → ⊥) → is_digit (byte_at s i) ≡ true
  first-digit n = go (is_digit (byte_at s i)) refl (dec_le (length s) i)
    where
      go : (t : Bool) → is_digit (byte_at s i) ≡ t → Dec (length s ≤ i) → is_digit (byte_at s i) ≡ true
      go true e l = e
      go false e (yes l) = absurd (n (omega (arith, run_ends is_digit s i l)))
      go false e (no l) = absurd (n (omega (arith, run-stops is_digit s i (omega arith) e)))

  -- the byte behind one that is the only one
  no_second : digits_at s i ≡ 1 → is_digit (byte_at s (i + 1)) ≡ false
  no_second one = go (is_digit (byte_at s (i + 1))) refl
    where
      go : (t : Bool) → is_digit (byte_at s (i + 1)) ≡ t → is_digit (byte_at s (i + 1)) ≡ false
      go false e = e
      go true e =
          let first : is_digit (byte_at s i) ≡ true = first-digit (λ z. omega arith) in
          let here : i + 1 < length s = digit-inside s (i + 1) refl e in
          absurd (omega (arith, run_more is_digit s i (omega arith) first, run_more is_digit s (i + 1) here e))

-- ---- The value of few digits
few-zeros : (c : ℕ) → (c ≡ 0 → ⊥) → c < 10 ^ 15 → end_zeros c ≤ 15
few-zeros c n h = go (dec_le (end_zeros c) 15)
  where
    over : (end_zeros c ≤ 15 → ⊥) → 15 ≤ end_zeros c
    over l = omega arith

    go : Dec (end_zeros c ≤ 15) → end_zeros c ≤ 15
    go (yes l) = l
    go (no l) =
        let some : 1 ≤ trimmed c = omega (arith, (trims c n).last) in
        let large : 10 ^ 15 ≤ 10 ^ end_zeros c = pow-le-pow_right (lit< tt) (over l) in
        absurd (omega (arith, mul-le-mul some large, (trims c n).whole))

below-most : {x : ℕ} (m : ℕ) → m ≤ 15 → x < 10 ^ m → x < 10 ^ 15
below-most m l h =
    let most : 10 ^ m ≤ 10 ^ 15 = pow-le-pow_right (lit< tt) l in
    omega arith

-- a number read whole up to j, of a value within the limits, whichever it is
pub record FitsUpTo (n : Number) (j : ℕ) : Type 0 where
  pub negative : Bool
  pub c : ℕ
  pub p15 : ℕ
  pub read : n ≡ record { reading = Ok j; value = Fits negative c p15 }

few-fit : (negative : Bool) (c fraction end : ℕ) → c < 10 ^ 15 → fraction ≤ 15 → FitsUpTo (with_exponent negative (trimmed c) (end_zeros c) fraction (Power end false 0)) end
unfolding with_exponent
few-fit negative c fraction end h f = go (ℕ_discrete c 0) (ℕ_discrete (trimmed c) 0)
  where
    go : Dec (c ≡ 0) → Dec (trimmed c ≡ 0) → FitsUpTo (record { reading = Ok end; value = value_of negative (trimmed c) (end_zeros c) fraction false 0 }) end
    go z (yes o) = record { negative = false; c = 0; p15 = 15; read = rw (value-zero negative (trimmed c) (end_zeros c) fraction false 0 o) }
    go (yes z) (no o) = absurd (o (ap trimmed z ∙ trimmed-zero))
    go (no n) (no o) =
        let fits : value_of negative (trimmed c) (end_zeros c) fraction false 0 ≡ Fits negative (trimmed c) (0 + end_zeros c + 15 - fraction) = value-above negative (trimmed c) (end_zeros c) fraction false 0 o refl ∙ limited-fits negative (trimmed c) (0 + end_zeros c) fraction (omega (arith, div-le_self c (10 ^ end_zeros c))) (omega arith) (omega (arith, few-zeros c n h)) in
        record { negative = negative; c = trimmed c; p15 = 0 + end_zeros c + 15 - fraction; read = rw fits }

-- ---- The parts of a short number
module _ (s : List ℕ) (j : ℕ) (some : 0 < j) where
  no-exponent : (end : ℕ) → j ≡ unless_raised s end → (j ≡ end) × (exponent_at s end ≡ Power end false 0)
  unfolding unless_raised
  no-exponent end is = go (eqb (byte_at s end) 101) refl (eqb (byte_at s end) 69) refl is
    where
      go : (t : Bool) → eqb (byte_at s end) 101 ≡ t → (u : Bool) → eqb (byte_at s end) 69 ≡ u → j ≡ cond (t || u) 0 end → (j ≡ end) × (exponent_at s end ≡ Power end false 0)
      go true p u q e = absurd (omega (arith, e))
      go false p true q e = absurd (omega (arith, e))
      go false p false q e = (e, letter-none s end (byte_at s end) refl (eqb-false (byte_at s end) 101 p) (eqb-false (byte_at s end) 69 q))

  module _ (negative : Bool) where
    few-digits : (end c fraction : ℕ) → c < 10 ^ 15 → fraction ≤ 15 → j ≡ unless_raised s end → FitsUpTo (with_coefficient s negative (trimmed_at end c fraction)) j
    unfolding with_coefficient
    few-digits end c fraction h f is = rw ((no-exponent end is).1, (no-exponent end is).0) (few-fit negative c fraction end h f)

    few-behind : (from i x m : ℕ) → i ≡ from + m → x < 10 ^ m → m ≤ 15 → j ≡ short_behind s from i → FitsUpTo (with_coefficient s negative (fraction_at s i x)) j
    unfolding short_behind fraction_at
    few-behind from i x m place h l is = go (eqb (byte_at s i) 46) (eqb (digits_at s (i + 1)) 0) (ltb 16 (i + 1 + digits_at s (i + 1) - from)) refl is
      where
        go : (t u v : Bool) → ltb 16 (i + 1 + digits_at s (i + 1) - from) ≡ v → j ≡ cond t (cond u 0 (cond v 0 (unless_raised s (i + 1 + digits_at s (i + 1))))) (unless_raised s i) → FitsUpTo (with_coefficient s negative (cond t (cond u (NoDigit (i + 1)) (trimmed_at (i + 1 + digits_at s (i + 1)) (formed x (drop (i + 1) s)) (digits_at s (i + 1)))) (trimmed_at i x 0))) j
        go true true v q e = absurd (omega (arith, e))
        go true false true q e = absurd (omega (arith, e))
        go true false false q e =
            let room : m + digits_at s (i + 1) ≤ 15 = omega (arith, ltb-false 16 (i + 1 + digits_at s (i + 1) - from) q) in
            few-digits (i + 1 + digits_at s (i + 1)) (formed x (drop (i + 1) s)) (digits_at s (i + 1)) (below-most (m + digits_at s (i + 1)) room (formed_below (drop (i + 1) s) x m h)) (omega arith) e
        go false u v q e = few-digits i x 0 (below-most m l h) (omega arith) e

-- the digits before the point form some number, and the fraction stands behind them
record Before (s : List ℕ) (from : ℕ) : Type 0 where
  pub x : ℕ
  pub before : coefficient_at s from ≡ fraction_at s (from + digits_at s from) x
  pub below : x < 10 ^ digits_at s from
  pub most : digits_at s from ≤ 15

short-before : (s : List ℕ) (from : ℕ) → is_short s from (digits_at s from) ≡ true → Before s from
unfolding is_short
short-before s from h = go (eqb (digits_at s from) 0) (eqb (digits_at s from) 1) (ltb 15 (digits_at s from)) refl refl refl h
  where
    go : (t u v : Bool) → eqb (digits_at s from) 0 ≡ t → eqb (digits_at s from) 1 ≡ u → ltb 15 (digits_at s from) ≡ v → cond t false (cond u true (cond v false (not (eqb (byte_at s from) 48)))) ≡ true → Before s from
    go true u v p q r e = absurd (false≢true e)
    go false true v p q r e =
        let one : digits_at s from ≡ 1 = eqb-true (digits_at s from) 1 q in
        let first : is_digit (byte_at s from) ≡ true = first-digit s from (eqb-false (digits_at s from) 0 p) in
        record {
          x = byte_at s from - 48;
          before = rw one (digit-coefficient s from first (no_second s from one));
          below = rw one (omega (arith, (digit-range (byte_at s from) first).1));
          most = omega arith;
        }
    go false false true p q r e = absurd (false≢true e)
    go false false false p q r e =
        let none : from + digits_at s from ≡ from → ⊥ = omega (arith, eqb-false (digits_at s from) 0 p) in
        record {
          x = formed 0 (drop from s);
          before = some-digits s from (byte_at s from) refl (eqb-false (byte_at s from) 48 (not-true (eqb (byte_at s from) 48) e)) refl none;
          below = rw (zero-add (digits_at s from)) at (formed_below (drop from s) 0 0 (lit< tt));
          most = ltb-false 15 (digits_at s from) r;
        }

-- a number is its sign and what stands behind it
signed : (s : List ℕ) (at : ℕ) → (negative : Bool) × (number_at s at ≡ with_coefficient s negative (coefficient_at s (behind_sign s at)))
unfolding number_at behind_sign
signed s at = go (eqb (byte_at s at) 45)
  where
    go : (t : Bool) → (negative : Bool) × (cond t (with_coefficient s true (coefficient_at s (at + 1))) (with_coefficient s false (coefficient_at s at)) ≡ with_coefficient s negative (coefficient_at s (cond t (at + 1) at)))
    go true = (true, refl)
    go false = (false, refl)

-- ---- What it says
pub short-read : (s : List ℕ) (at j : ℕ) → j ≡ short_end s at → 0 < j → FitsUpTo (number_at s at) j
unfolding short_end short_from
short-read s at j is some = rw (signed s at).1 (go (is_short s from (digits_at s from)) refl is)
  where
    from : ℕ
    from = behind_sign s at

    go : (t : Bool) → is_short s from (digits_at s from) ≡ t → j ≡ cond t (short_behind s from (from + digits_at s from)) 0 → FitsUpTo (with_coefficient s (signed s at).0 (coefficient_at s from)) j
    go true p e =
        let b : Before s from = short-before s from p in
        rw b.before (few-behind s j some (signed s at).0 from (from + digits_at s from) b.x (digits_at s from) refl b.below b.most e)
    go false p e = absurd (omega (arith, e))
