-- Laws for those who read numbers: where one ends or stops, that its value is within the limits and in its form, and that
-- equality by value is one and, of values in their form, equality of the form.
-- Assumes nothing.
use Rattle.std.specs.Prelude.{Ok}
use Prim.Native.Nat.{ℕ, ◌+◌, ◌*◌, ◌/◌, ◌%◌, ◌^◌, ◌≤◌, ◌<◌}
use mathlib.Core.Path.{◌≡◌, refl, sym, ap, ◌∙◌}
use mathlib.Core.Bool.{Bool, true, false, cond, ◌&&◌}
use mathlib.Core.List.{List}
use native.Mathlib.Nat.{zero-mul, mul_assoc}
use native.Mathlib.Decide.{ℕ_discrete}
use native.Mathlib.Omega.{arith}
use borrow.Author.Tests.{eq-eqb, ne_eqb, eqb-true}
use lib.ListN.{length, drop}
use lib.Dec.{leb, eqb}
use lib.Pow.{pow-add}
use Rattle.json_bytes.specs.Reads.{byte_at, fault_at}
use Rattle.json_bytes.proofs.Laws.{by-test}
use Rattle.json_number.specs.Number.{
  digits_at,
  formed,
  end_zeros,
  trimmed,
  trimmed_at,
  fraction_at,
  coefficient_at,
  exponent_at,
  largest,
  within_limits,
  value_of,
  InForm,
  with_exponent,
  with_coefficient,
  number_at,
  magnitude,
  whole_of,
  integer_of,
  same_sign,
  same_parts,
  same_value,
}
use Rattle.json_number.specs.declared.Coefficient.{Coefficient}
use Rattle.json_number.specs.declared.Coefficient.TheVariants.{Digits, NoDigit}
use Rattle.json_number.specs.declared.Exponent.{Exponent}
use Rattle.json_number.specs.declared.Exponent.TheVariants.{Power, NoPower}
use Rattle.json_number.specs.declared.Number.{Number}
use Rattle.json_number.specs.declared.Integer.{Integer}
use Rattle.json_number.specs.declared.Integer.TheVariants.{Is, TooLarge}
use Rattle.json_number.specs.declared.Value.{Value}
use Rattle.json_number.specs.declared.Value.TheVariants.{Fits, Beyond}
use Rattle.json_number.proofs.Trim.{one_way, trims, trimmed-zero, trimmed-whole}
use Rattle.json_number.proofs.Limits.{and-false, limited-parts, value-within, value-form}
use Rattle.json_number.proofs.Places.{number-in}
use Rattle.json_number.proofs.Scale.{ten-pos, nonzero, test-swap, same-outside, same-outside-2, same-unequal, same-zero, same-signs}

-- ---- The reading
-- a number read whole ends behind its first byte and within the file
pub whole_in : (s : List ℕ) (at : ℕ) {end : ℕ} → (number_at s at).reading ≡ Ok end → (at < end) × (end ≤ length s)
whole_in s at e = rw e at (number-in s at)

-- a fault's place is one from the number's on that is at most the file's length if the number's is
pub fault-in : (s : List ℕ) (at : ℕ) {kind place : ℕ} → (number_at s at).reading ≡ fault_at kind place → (at ≤ place) × (at ≤ length s → place ≤ length s)
fault-in s at e = rw e at (number-in s at)

-- ---- The value
-- a number's value, where it has one, is within the limits
with-within : (s : List ℕ) (negative : Bool) (k : Coefficient) {n : Bool} {c p : ℕ} → (with_coefficient s negative k).value ≡ Fits n c p → within_limits c p ≡ true
unfolding with_coefficient with_exponent
with-within s negative (NoDigit place) e =
    let z : ◌≡◌ {A = ℕ} 0 1 = cc in
    absurd (omega arith)
with-within s negative (Digits end d zeros fraction) {n} {c} {p} e = go (exponent_at s end) e
  where
    go : (x : Exponent) → (with_exponent negative d zeros fraction x).value ≡ Fits n c p → within_limits c p ≡ true
    go (Power end' below size) q = value-within negative d zeros fraction below size q
    go (NoPower place) q =
        let z : ◌≡◌ {A = ℕ} 0 1 = cc in
        absurd (omega arith)

pub number-within : (s : List ℕ) (at : ℕ) {negative : Bool} {c p : ℕ} → (number_at s at).value ≡ Fits negative c p → within_limits c p ≡ true
unfolding number_at
number-within s at {negative} {c} {p} e =
    by-test (λ (n : Number). n.value ≡ Fits negative c p → within_limits c p ≡ true) (eqb (byte_at s at) 45) _ _
    (λ t. with-within s true (coefficient_at s (at + 1)))
    (λ t. with-within s false (coefficient_at s at))
    e

-- ---- The form
-- a c that the digits have left ends in no zero, unless it is zero
abbrev Ended : Coefficient → Type 0
Ended (Digits end c zeros fraction) = (c ≡ 0 → ⊥) → c % 10 ≡ 0 → ⊥
Ended (NoDigit place) = ◌≡◌ {A = ℕ} 0 0

trimmed-ended : (end c fraction : ℕ) → Ended (trimmed_at end c fraction)
trimmed-ended end c fraction n = (trims c (λ z. n (ap trimmed z ∙ trimmed-zero))).last

fraction-ended : (s : List ℕ) (i c : ℕ) → Ended (fraction_at s i c)
unfolding fraction_at
fraction-ended s i c =
    by-test Ended (eqb (byte_at s i) 46) _ _
    (λ e.
    by-test Ended (eqb (digits_at s (i + 1)) 0) _ _
    (λ z. refl)
    (λ z. trimmed-ended (i + 1 + digits_at s (i + 1)) (formed c (drop (i + 1) s)) (digits_at s (i + 1))))
    (λ e. trimmed-ended i c 0)

coefficient-ended : (s : List ℕ) (i : ℕ) → Ended (coefficient_at s i)
unfolding coefficient_at
coefficient-ended s i =
    by-test Ended (eqb (byte_at s i) 48) _ _
    (λ e. fraction-ended s (i + 1) 0)
    (λ e.
    by-test Ended (eqb (digits_at s i) 0) _ _
    (λ z. refl)
    (λ z. fraction-ended s (i + digits_at s i) (formed 0 (drop i s))))

with-form : (s : List ℕ) (negative : Bool) (k : Coefficient) → Ended k → {n : Bool} {c p : ℕ} → (with_coefficient s negative k).value ≡ Fits n c p → InForm n c p
unfolding with_coefficient with_exponent
with-form s negative (NoDigit place) h e =
    let z : ◌≡◌ {A = ℕ} 0 1 = cc in
    absurd (omega arith)
with-form s negative (Digits end d zeros fraction) h {n} {c} {p} e = go (exponent_at s end) e
  where
    go : (x : Exponent) → (with_exponent negative d zeros fraction x).value ≡ Fits n c p → InForm n c p
    go (Power end' below size) q = value-form negative d zeros fraction below size h q
    go (NoPower place) q =
        let z : ◌≡◌ {A = ℕ} 0 1 = cc in
        absurd (omega arith)

-- a number's value, where it has one, is in its form
pub number-form : (s : List ℕ) (at : ℕ) {negative : Bool} {c p : ℕ} → (number_at s at).value ≡ Fits negative c p → InForm negative c p
unfolding number_at
number-form s at {negative} {c} {p} e =
    by-test (λ (n : Number). n.value ≡ Fits negative c p → InForm negative c p) (eqb (byte_at s at) 45) _ _
    (λ t. with-form s true (coefficient_at s (at + 1)) (coefficient-ended s (at + 1)))
    (λ t. with-form s false (coefficient_at s at) (coefficient-ended s at))
    e

-- the form is the value that the digits and the exponent give: ±c times 10 to the exponent less the count of fraction digits
pub value-is : (negative : Bool) (c fraction : ℕ) (below : Bool) (e : ℕ) {n : Bool} {d p : ℕ} → value_of negative (trimmed c) (end_zeros c) fraction below e ≡ Fits n d p → (d * 10 ^ (p + cond below (e + fraction) fraction) ≡ c * 10 ^ (cond below 0 e + 15)) × ((c ≡ 0 → ⊥) → n ≡ negative)
unfolding value_of
value-is negative c fraction below e {n} {d} {p} h =
    by-test (λ (v : Value). v ≡ Fits n d p → (d * 10 ^ (p + cond below (e + fraction) fraction) ≡ c * 10 ^ (cond below 0 e + 15)) × ((c ≡ 0 → ⊥) → n ≡ negative)) (eqb (trimmed c) 0) _ _
    (λ t q.
    let none : ◌≡◌ {A = ℕ} 0 d = cc in
    zero_is (eqb-true (trimmed c) 0 t) none)
    (λ t q. other-is (limited-parts negative (trimmed c) (cond below 0 e + end_zeros c) (cond below (e + fraction) fraction) q))
    h
  where
    zero_is : trimmed c ≡ 0 → 0 ≡ d → (d * 10 ^ (p + cond below (e + fraction) fraction) ≡ c * 10 ^ (cond below 0 e + 15)) × ((c ≡ 0 → ⊥) → n ≡ negative)
    zero_is z o =
        let gone : c ≡ 0 = sym (trimmed-whole c) ∙ ap (λ (x : ℕ). x * 10 ^ end_zeros c) z ∙ zero-mul (10 ^ end_zeros c) in (
          ap (λ (x : ℕ). x * 10 ^ (p + cond below (e + fraction) fraction)) (sym o) ∙
              zero-mul (10 ^ (p + cond below (e + fraction) fraction)) ∙
              sym (zero-mul (10 ^ (cond below 0 e + 15))) ∙
              ap (λ (x : ℕ). x * 10 ^ (cond below 0 e + 15)) (sym gone),
          λ m. absurd (m gone),
        )

    other-is : (n ≡ negative) × (trimmed c ≡ d) × (p + cond below (e + fraction) fraction ≡ cond below 0 e + end_zeros c + 15) → (d * 10 ^ (p + cond below (e + fraction) fraction) ≡ c * 10 ^ (cond below 0 e + 15)) × ((c ≡ 0 → ⊥) → n ≡ negative)
    other-is u =
        let power : p + cond below (e + fraction) fraction ≡ end_zeros c + (cond below 0 e + 15) = omega (arith, u.2) in (
          ap (λ (x : ℕ). x * 10 ^ (p + cond below (e + fraction) fraction)) (sym u.1) ∙
              ap (λ (k : ℕ). trimmed c * 10 ^ k) power ∙
              ap (λ (x : ℕ). trimmed c * x) (pow-add 10 (end_zeros c) (cond below 0 e + 15)) ∙
              sym (mul_assoc (trimmed c) (10 ^ end_zeros c) (10 ^ (cond below 0 e + 15))) ∙
              ap (λ (x : ℕ). x * 10 ^ (cond below 0 e + 15)) (trimmed-whole c),
          λ m. u.0,
        )

-- ---- Equality by value
sign-refl : (n : Bool) → same_sign n n ≡ true
sign-refl true = refl
sign-refl false = refl

sign-swap : (m n : Bool) → same_sign m n ≡ same_sign n m
sign-swap true true = refl
sign-swap true false = refl
sign-swap false true = refl
sign-swap false false = refl

pub same_refl : (negative : Bool) (c p : ℕ) → within_limits c p ≡ true → same_value (Fits negative c p) (Fits negative c p) ≡ true
unfolding same_value
same_refl negative c p w = go (ℕ_discrete c 0)
  where
    equal : eqb (magnitude c p) (magnitude c p) ≡ true
    equal = eq-eqb (magnitude c p) (magnitude c p) refl

    go : Dec (c ≡ 0) → same_parts negative c p negative c p ≡ true
    go (yes z) = same-zero negative c p negative c p w w equal z
    go (no z) = same-signs negative c p negative c p w w equal z ∙ sign-refl negative

-- two magnitudes that are equal are zero together
zero-too : (c p d q : ℕ) → magnitude c p ≡ magnitude d q → c ≡ 0 → d ≡ 0
zero-too c p d q e z = go (ℕ_discrete d 0)
  where
    none : d * 10 ^ q ≡ 0
    none = sym e ∙ rw z (zero-mul (10 ^ p))

    go : Dec (d ≡ 0) → d ≡ 0
    go (yes h) = h
    go (no h) = absurd (nonzero d (10 ^ q) h (ten-pos q refl) none)

and-true : (t : Bool) → (t && true) ≡ t
and-true true = refl
and-true false = refl

parts-swap : (m : Bool) (c p : ℕ) (n : Bool) (d q : ℕ) → same_parts m c p n d q ≡ same_parts n d q m c p
parts-swap m c p n d q = go (within_limits c p) refl (within_limits d q) refl (eqb (magnitude c p) (magnitude d q)) refl
  where
    go : (t : Bool) → within_limits c p ≡ t → (u : Bool) → within_limits d q ≡ u → (e : Bool) → eqb (magnitude c p) (magnitude d q) ≡ e → same_parts m c p n d q ≡ same_parts n d q m c p
    go false v true w e h = same-outside m c p n d q v ∙ sym (same-outside-2 n d q m c p w v)
    go false v false w e h = same-outside m c p n d q v ∙ sym (same-outside n d q m c p w)
    go true v false w e h = same-outside-2 m c p n d q v w ∙ sym (same-outside n d q m c p w)
    go true v true w false h =
        same-unequal m c p n d q v w h ∙ sym (same-unequal n d q m c p w v (test-swap (magnitude d q) (magnitude c p) ∙ h))
    go true v true w true h =
        let equal : magnitude c p ≡ magnitude d q = eqb-true (magnitude c p) (magnitude d q) h in
        let back : eqb (magnitude d q) (magnitude c p) ≡ true = test-swap (magnitude d q) (magnitude c p) ∙ h in
        ends equal back (ℕ_discrete c 0)
      where
        ends : magnitude c p ≡ magnitude d q → eqb (magnitude d q) (magnitude c p) ≡ true → Dec (c ≡ 0) → same_parts m c p n d q ≡ same_parts n d q m c p
        ends equal back (yes z) = same-zero m c p n d q v w h z ∙ sym (same-zero n d q m c p w v back (zero-too c p d q equal z))
        ends equal back (no z) =
            same-signs m c p n d q v w h z ∙
            sign-swap m n ∙
            sym (same-signs n d q m c p w v back (λ y. z (zero-too d q c p (sym equal) y)))

pub same-sym : (a b : Value) → same_value a b ≡ same_value b a
unfolding same_value
same-sym (Fits m c p) (Fits n d q) = parts-swap m c p n d q
same-sym (Fits m c p) Beyond = refl
same-sym Beyond (Fits n d q) = refl
same-sym Beyond Beyond = refl

-- ---- Integers: the same value exactly if the same sign and the same magnitude
pub record WholeNumber (negative : Bool) (c p : ℕ) (m : Bool) (x : ℕ) : Type 0 where
  pub inside-limits : within_limits c p ≡ true
  pub scaled : magnitude c p ≡ x * 10 ^ 15
  pub signed : m ≡ cond (eqb c 0) false negative

whole-number : (negative : Bool) (c p : ℕ) {m : Bool} {x : ℕ} → whole_of negative c p ≡ Is m x → WholeNumber negative c p m x
unfolding whole_of
whole-number negative c p {m} {x} h =
    by-test Then (within_limits c p) _ _
    (λ w.
    by-test Then (eqb (magnitude c p % 10 ^ 15) 0) _ _
    (λ r.
    by-test Then (leb (magnitude c p / 10 ^ 15) largest) _ _
    (λ l q.
    let xs : magnitude c p / 10 ^ 15 ≡ x = cc in
    let ms : cond (eqb c 0) false negative ≡ m = cc in
    record { inside-limits = w; scaled = omega (arith, eqb-true (magnitude c p % 10 ^ 15) 0 r); signed = sym ms })
    (λ l. too_large))
    (λ r q.
    let z : ◌≡◌ {A = ℕ} 0 1 = cc in
    absurd (omega arith)))
    (λ w. too_large)
    h
  where
    Then : Integer → Type 0
    Then r = r ≡ Is m x → WholeNumber negative c p m x

    too_large : Then TooLarge
    too_large q =
        let z : ◌≡◌ {A = ℕ} 0 1 = cc in
        absurd (omega arith)

parts-integers : (f : Bool) (c p : ℕ) (g : Bool) (d q : ℕ) (m : Bool) (x : ℕ) (n : Bool) (y : ℕ) → WholeNumber f c p m x → WholeNumber g d q n y → same_parts f c p g d q ≡ (eqb x y && same_sign m n)
parts-integers f c p g d q m x n y a b = go (ℕ_discrete x y) (ℕ_discrete c 0) (ℕ_discrete d 0)
  where
    equal : x ≡ y → magnitude c p ≡ magnitude d q
    equal e = a.scaled ∙ rw e (sym b.scaled)

    test : x ≡ y → eqb (magnitude c p) (magnitude d q) ≡ true
    test e = eq-eqb (magnitude c p) (magnitude d q) (equal e)

    go : Dec (x ≡ y) → Dec (c ≡ 0) → Dec (d ≡ 0) → same_parts f c p g d q ≡ (eqb x y && same_sign m n)
    go (no h) _ _ =
        same-unequal f c p g d q a.inside-limits b.inside-limits
        (ne_eqb (magnitude c p) (magnitude d q) (λ e. h (omega (arith, a.scaled, b.scaled)))) ∙
        rw (ne_eqb x y h)
    go (yes e) (yes z) (yes o) =
        same-zero f c p g d q a.inside-limits b.inside-limits (test e) z ∙
        rw (eq-eqb x y e, a.signed, b.signed, eq-eqb c 0 z, eq-eqb d 0 o)
    go (yes e) (yes z) (no o) = absurd (o (zero-too c p d q (equal e) z))
    go (yes e) (no z) (yes o) = absurd (z (zero-too d q c p (sym (equal e)) o))
    go (yes e) (no z) (no o) =
        same-signs f c p g d q a.inside-limits b.inside-limits (test e) z ∙
        rw (eq-eqb x y e, a.signed, b.signed, ne_eqb c 0 z, ne_eqb d 0 o)

pub same-integers : (v w : Value) {m : Bool} {x : ℕ} {n : Bool} {y : ℕ} → integer_of v ≡ Is m x → integer_of w ≡ Is n y → same_value v w ≡ (eqb x y && same_sign m n)
unfolding integer_of same_value
same-integers (Fits f c p) (Fits g d q) {m} {x} {n} {y} a b = parts-integers f c p g d q m x n y (whole-number f c p a) (whole-number g d q b)
same-integers (Fits f c p) Beyond a b =
    let z : ◌≡◌ {A = ℕ} 0 1 = cc in
    absurd (omega arith)
same-integers Beyond w a b =
    let z : ◌≡◌ {A = ℕ} 0 1 = cc in
    absurd (omega arith)

-- ---- Values in their form: one value exactly if one sign, one c and one p
both_zero : (m : Bool) (c p : ℕ) (n : Bool) (d q : ℕ) → within_limits c p ≡ true → within_limits d q ≡ true → InForm m c p → InForm n d q → c ≡ 0 → d ≡ 0 → same_parts m c p n d q ≡ (same_sign m n && (eqb c d && eqb p q))
both_zero m c p n d q v w a b z o =
    let one : magnitude c p ≡ magnitude d q = rw (z, o) (zero-mul (10 ^ p) ∙ sym (zero-mul (10 ^ q))) in
    let cs : c ≡ d = omega arith in
    let ps : p ≡ q = (a.0 z).1 ∙ sym (b.0 o).1 in
    same-zero m c p n d q v w (eq-eqb (magnitude c p) (magnitude d q) one) z ∙
    rw ((a.0 z).0, (b.0 o).0, eq-eqb c d cs, eq-eqb p q ps)

pub same-form : (m : Bool) (c p : ℕ) (n : Bool) (d q : ℕ) → within_limits c p ≡ true → within_limits d q ≡ true → InForm m c p → InForm n d q → same_value (Fits m c p) (Fits n d q) ≡ (same_sign m n && (eqb c d && eqb p q))
unfolding same_value
same-form m c p n d q v w a b = go (ℕ_discrete (magnitude c p) (magnitude d q)) (ℕ_discrete c 0) (ℕ_discrete d 0)
  where
    Same : Type 0
    Same = same_parts m c p n d q ≡ (same_sign m n && (eqb c d && eqb p q))

    apart : Dec (c ≡ d) → Dec (p ≡ q) → (magnitude c p ≡ magnitude d q → ⊥) → (eqb c d && eqb p q) ≡ false
    apart (yes e) (yes f) h = absurd (h (rw (e, f) refl))
    apart (yes e) (no f) h = rw (eq-eqb c d e, ne_eqb p q f)
    apart (no e) f h = rw (ne_eqb c d e)

    go : Dec (magnitude c p ≡ magnitude d q) → Dec (c ≡ 0) → Dec (d ≡ 0) → Same
    go (no h) z o =
        same-unequal m c p n d q v w (ne_eqb (magnitude c p) (magnitude d q) h) ∙
        rw (apart (ℕ_discrete c d) (ℕ_discrete p q) h) (sym (and-false (same_sign m n)))
    go (yes e) (yes z) (yes o) = both_zero m c p n d q v w a b z o
    go (yes e) (yes z) (no o) = absurd (o (zero-too c p d q e z))
    go (yes e) (no z) (yes o) = absurd (z (zero-too d q c p (sym e) o))
    go (yes e) (no z) (no o) =
        let one : (c ≡ d) × (p ≡ q) = one_way (record { whole = refl; last = a.1 z }) (record { whole = e; last = b.1 o }) in
        same-signs m c p n d q v w (eq-eqb (magnitude c p) (magnitude d q) e) z ∙
        rw (eq-eqb c d one.0, eq-eqb p q one.1) (sym (and-true (same_sign m n)))

-- so two numbers as they are read
pub same_numbers : (s : List ℕ) (i : ℕ) (t : List ℕ) (j : ℕ) {m : Bool} {c p : ℕ} {n : Bool} {d q : ℕ} → (number_at s i).value ≡ Fits m c p → (number_at t j).value ≡ Fits n d q → same_value (Fits m c p) (Fits n d q) ≡ (same_sign m n && (eqb c d && eqb p q))
same_numbers s i t j {m} {c} {p} {n} {d} {q} a b = same-form m c p n d q (number-within s i a) (number-within t j b) (number-form s i a) (number-form t j b)
