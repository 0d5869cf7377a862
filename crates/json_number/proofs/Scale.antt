-- Powers of ten, and what a value is once they are multiplied out.
-- Assumes nothing.
use Prim.Native.Nat.{ℕ, ◌+◌, ◌*◌, ◌/◌, ◌%◌, ◌^◌, ◌≤◌, ◌<◌}
use mathlib.Core.Path.{◌≡◌, refl, sym, ap, ◌∙◌}
use mathlib.Core.Bool.{Bool, true, false}
use native.Mathlib.Nat.{zero-mul, pow-suc, one-le-pow, pow-le-pow_right, mul-le-mul, mul-pos, mul_assoc, mul-mod_left, mul-div_left, mul-div-mul_right, div-le_self, div-lt_iff_lt-mul, div-add-mod', le-div_iff_mul-le, eq_of_mul-eq-mul_right}
use native.Mathlib.Decide.{ℕ_discrete}
use native.Mathlib.Numerals.{add-one}
use native.Mathlib.Omega.{arith}
use borrow.Author.Tests.{eq-eqb, ne_eqb, le-leb, lt-leb}
use lib.Arith.{mod-mul}
use lib.Pow.{pow-add}
use lib.Dec.{eqb, lit<}
use Rattle.json_number.specs.Number.{largest, within_limits, whole_of, sign_of, magnitude, same_sign, same_parts, same_value}
use Rattle.json_number.specs.declared.Integer.TheVariants.{Is, Fraction, TooLarge}
use Rattle.json_number.specs.declared.Sign.TheVariants.{Zero, Above, Below}
use Rattle.json_number.specs.declared.Value.{Value}
use Rattle.json_number.specs.declared.Value.TheVariants.{Fits}

pub ten-more : {x : ℕ} (i : ℕ) → x ≡ 10 ^ i → x * 10 ≡ 10 ^ (i + 1)
ten-more i e = rw (e, add-one i) (sym (pow-suc 10 i))

-- ten to at most the fifteenth
pub ten-bound : {x : ℕ} (i : ℕ) → x ≡ 10 ^ i → i ≤ 15 → x ≤ 10 ^ 15
ten-bound i e h = rw e (pow-le-pow_right (lit< tt) h)

pub ten-pos : {x : ℕ} (i : ℕ) → x ≡ 10 ^ i → 0 < x
ten-pos i e = rw e (one-le-pow i 10 (lit< tt))

-- two tests of one fact
pub same_test : {a b c d : ℕ} → (a ≡ b → c ≡ d) → (c ≡ d → a ≡ b) → eqb a b ≡ eqb c d
same_test {a} {b} {c} {d} f g = go (ℕ_discrete a b)
  where
    go : Dec (a ≡ b) → eqb a b ≡ eqb c d
    go (yes e) = eq-eqb a b e ∙ sym (eq-eqb c d (f e))
    go (no n) = ne_eqb a b n ∙ sym (ne_eqb c d (λ e. n (g e)))

pub test-swap : (a b : ℕ) → eqb a b ≡ eqb b a
test-swap a b = same_test (λ (e : a ≡ b). sym e) (λ (e : b ≡ a). sym e)

pub nonzero : (a b : ℕ) → (a ≡ 0 → ⊥) → 0 < b → a * b ≡ 0 → ⊥
nonzero a b n h e = omega (arith, mul-pos {m = a} {n = b} (omega arith) h)

-- ---- c times b beside a times b
module _ (c a b : ℕ) (pa : 0 < a) (pb : 0 < b) where
  scaled-quotient : c * b / (a * b) ≡ c / a
  scaled-quotient = mul-div-mul_right c a pb

  scaled-rest : c * b % (a * b) ≡ c % a * b
  scaled-rest =
      mod-mul (c * b) pa pb ∙
      rw (mul-div_left c pb, mul-mod_left c b) (omega arith)

-- ---- A value as an Integer, by its power of ten
module _ (negative : Bool) (c p : ℕ) where
  pub whole-outside : within_limits c p ≡ false → whole_of negative c p ≡ TooLarge
  unfolding whole_of
  whole-outside w = rw w

  pub whole-zero : within_limits c p ≡ true → c ≡ 0 → whole_of negative c p ≡ Is false 0
  unfolding whole_of
  whole-zero w z = rw (w, z, zero-mul)

-- p below 0, as p + 15 and k make 15: the last k digits of c stand behind the point
module _ (negative : Bool) (c p k t : ℕ) (w : within_limits c p ≡ true) (sum : k + p ≡ 15) (ten : t ≡ 10 ^ k) where
  unit : 10 ^ 15 ≡ t * 10 ^ p
  unit = rw ten (ap (λ (n : ℕ). 10 ^ n) (sym sum) ∙ pow-add 10 k p)

  rest : c * 10 ^ p % 10 ^ 15 ≡ c % t * 10 ^ p
  rest = rw unit (scaled-rest c t (10 ^ p) (ten-pos k ten) (ten-pos p refl))

  quotient : c * 10 ^ p / 10 ^ 15 ≡ c / t
  quotient = rw unit (scaled-quotient c t (10 ^ p) (ten-pos k ten) (ten-pos p refl))

  pub whole-fraction : (c % t ≡ 0 → ⊥) → whole_of negative c p ≡ Fraction
  unfolding whole_of
  whole-fraction n = rw (w, rest, ne_eqb (c % t * 10 ^ p) 0 (nonzero (c % t) (10 ^ p) n (ten-pos p refl)))

  pub whole-lowered : c ≤ largest → (c ≡ 0 → ⊥) → c % t ≡ 0 → whole_of negative c p ≡ Is negative (c / t)
  unfolding whole_of
  whole-lowered h n z =
      rw (w, rest, z, zero-mul, quotient, le-leb (c / t) largest (omega (arith, div-le_self c t)), ne_eqb c 0 n)

-- what fits the Integer's limit
pub raised-bound : (c k : ℕ) {t : ℕ} → t ≡ 10 ^ k → c ≤ largest / t → c * t ≤ largest
raised-bound c k ten h = (le-div_iff_mul-le (ten-pos k ten)).0 h

-- p from 0 on, as p + 15 is 15 and k more: k zeros stand behind c
module _ (negative : Bool) (c p k t : ℕ) (w : within_limits c p ≡ true) (sum : p ≡ k + 15) (ten : t ≡ 10 ^ k) where
  multiple : c * 10 ^ p ≡ c * t * 10 ^ 15
  multiple = rw (sum, pow-add 10 k 15, ten) (sym (mul_assoc c (10 ^ k) (10 ^ 15)))

  pub whole-raised : (c ≡ 0 → ⊥) → c ≤ largest / t → whole_of negative c p ≡ Is negative (c * t)
  unfolding whole_of
  whole-raised n h =
      rw (w, multiple, mul-mod_left (c * t) (10 ^ 15), mul-div_left (c * t) (lit< tt), le-leb (c * t) largest (raised-bound c k ten h), ne_eqb c 0 n)

  pub whole-large : largest / t < c → whole_of negative c p ≡ TooLarge
  unfolding whole_of
  whole-large h =
      rw (w, multiple, mul-mod_left (c * t) (10 ^ 15), mul-div_left (c * t) (lit< tt), lt-leb (c * t) largest ((div-lt_iff_lt-mul (ten-pos k ten)).0 h))

-- ---- Equality by value
module _ (c by d t : ℕ) (ten : t ≡ 10 ^ by) where
  pub raised-zero : c ≡ 0 → eqb d 0 ≡ eqb (c * 10 ^ by) d
  raised-zero z = rw (z, zero-mul) (test-swap d 0)

  pub raised-over : (c ≡ 0 → ⊥) → d ≤ largest → 15 < by → false ≡ eqb (c * 10 ^ by) d
  raised-over n h l =
      let one : 1 ≤ c = omega arith in
      let large : 10 ^ 16 ≤ 10 ^ by = pow-le-pow_right (lit< tt) l in
      sym (ne_eqb (c * 10 ^ by) d (omega (arith, mul-le-mul one large)))

  pub raised-not : (d % t ≡ 0 → ⊥) → false ≡ eqb (c * 10 ^ by) d
  raised-not n = sym (ne_eqb (c * 10 ^ by) d (λ e. n (rw (← e, ten) (mul-mod_left c (10 ^ by)))))

  pub raised_is : d % t ≡ 0 → eqb (d / t) c ≡ eqb (c * 10 ^ by) d
  raised_is z =
      rw (← ten)
      (same_test
      (λ (e : d / t ≡ c). rw (← e) (omega (arith, div-add-mod' d t)))
      (λ (e : c * t ≡ d). rw (← e) (mul-div_left c (ten-pos by ten))))

-- bringing the larger power of ten down to the smaller
pub same-lowered : (c p d q k : ℕ) → p ≡ k + q → eqb (c * 10 ^ k) d ≡ eqb (magnitude c p) (magnitude d q)
same-lowered c p d q k sum =
    let m : c * 10 ^ p ≡ c * 10 ^ k * 10 ^ q = rw (sum, pow-add 10 k q) (sym (mul_assoc c (10 ^ k) (10 ^ q))) in
    rw m
    (same_test
    (λ (e : c * 10 ^ k ≡ d). ap (λ (x : ℕ). x * 10 ^ q) e)
    (λ (e : c * 10 ^ k * 10 ^ q ≡ d * 10 ^ q). eq_of_mul-eq-mul_right (10 ^ q) (ten-pos q refl) (c * 10 ^ k) d e))

module _ (m : Bool) (c p : ℕ) (n : Bool) (d q : ℕ) where
  pub same-outside : within_limits c p ≡ false → same_parts m c p n d q ≡ false
  unfolding same_parts
  same-outside v = rw v

  pub same-outside-2 : within_limits c p ≡ true → within_limits d q ≡ false → same_parts m c p n d q ≡ false
  unfolding same_parts
  same-outside-2 v w = rw (v, w)

module _ (m : Bool) (c p : ℕ) (n : Bool) (d q : ℕ) (v : within_limits c p ≡ true) (w : within_limits d q ≡ true) where
  pub same-unequal : eqb (magnitude c p) (magnitude d q) ≡ false → same_parts m c p n d q ≡ false
  unfolding same_parts
  same-unequal e = rw (v, w, e)

  pub same-zero : eqb (magnitude c p) (magnitude d q) ≡ true → c ≡ 0 → same_parts m c p n d q ≡ true
  unfolding same_parts
  same-zero e z = rw (v, w, e, eq-eqb c 0 z)

  pub same-signs : eqb (magnitude c p) (magnitude d q) ≡ true → (c ≡ 0 → ⊥) → same_parts m c p n d q ≡ same_sign m n
  unfolding same_parts
  same-signs e z = rw (v, w, e, ne_eqb c 0 z)

-- an answer for the values that two are, is one for the two
pub same_of : {a b v w : Value} {r : Bool} → a ≡ v → b ≡ w → r ≡ same_value v w → r ≡ same_value a b
same_of e f h = rw (e, f) h

-- ---- Beside zero
module _ (negative : Bool) (c p : ℕ) where
  pub sign_zero : c ≡ 0 → sign_of (Fits negative c p) ≡ Zero
  unfolding sign_of
  sign_zero z = rw (eq-eqb c 0 z)

  pub sign_below : (c ≡ 0 → ⊥) → negative ≡ true → sign_of (Fits negative c p) ≡ Below
  unfolding sign_of
  sign_below z n = rw (ne_eqb c 0 z, n)

  pub sign_above : (c ≡ 0 → ⊥) → negative ≡ false → sign_of (Fits negative c p) ≡ Above
  unfolding sign_of
  sign_above z n = rw (ne_eqb c 0 z, n)
