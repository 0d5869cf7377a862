-- The limits: which numbers fit, and that a capped number fits exactly where the number itself does.
-- Assumes nothing.
use Prim.Native.Nat.{ℕ, ◌+◌, ◌-◌, ◌%◌, ◌^◌, ◌≤◌, ◌<◌, min}
use mathlib.Core.Path.{◌≡◌, refl, sym, ap, ◌∙◌}
use mathlib.Core.Bool.{Bool, true, false, cond, ◌&&◌}
use native.Mathlib.Nat.{min-eq_left}
use native.Mathlib.Decide.{ℕ_discrete, dec_le}
use native.Mathlib.Omega.{arith}
use borrow.Author.Tests.{eq-eqb, ne_eqb, le-leb, lt-leb, leb-true, eqb-false}
use lib.Dec.{leb, eqb}
use Rattle.json_bytes.proofs.Laws.{by-test, both_left, both_right}
use Rattle.json_number.specs.Number.{largest, limited, within_limits, value_of, InForm}
use Rattle.json_number.specs.Capped.{cap}
use Rattle.json_number.specs.declared.Value.{Value}
use Rattle.json_number.specs.declared.Value.TheVariants.{Fits, Beyond}

pub within-c : (c p : ℕ) → within_limits c p ≡ true → c ≤ largest
unfolding within_limits
within-c c p w = leb-true c largest (both_left (leb c largest) (leb p 30) w)

pub within-p : (c p : ℕ) → within_limits c p ≡ true → p ≤ 30
unfolding within_limits
within-p c p w = leb-true p 30 (both_right (leb c largest) (leb p 30) w)

pub and-false : (t : Bool) → (t && false) ≡ false
and-false true = refl
and-false false = refl

module _ (negative : Bool) (c up down : ℕ) where
  pub limited-fits : c ≤ largest → down ≤ up + 15 → up ≤ down + 15 → limited negative c up down ≡ Fits negative c (up + 15 - down)
  unfolding limited within_limits
  limited-fits h l u = rw (le-leb _ _ l, le-leb _ _ h, le-leb (up + 15 - down) 30 (omega arith))

  -- with p kept as p + 15
  pub limited-is : {p : ℕ} → c ≤ largest → p + down ≡ up + 15 → p ≤ 30 → limited negative c up down ≡ Fits negative c p
  limited-is h e l = limited-fits h (omega arith) (omega arith) ∙ ap (λ (k : ℕ). Fits negative c k) (omega arith)

  pub limited-c : largest < c → limited negative c up down ≡ Beyond
  unfolding limited within_limits
  limited-c h = rw (lt-leb c largest h, and-false)

  pub limited-low : up + 15 < down → limited negative c up down ≡ Beyond
  unfolding limited
  limited-low h = rw (lt-leb _ _ h)

  pub limited-high : down + 15 < up → limited negative c up down ≡ Beyond
  unfolding limited within_limits
  limited-high h = rw (lt-leb (up + 15 - down) 30 (omega arith), and-false, and-false)

pub limited-within : (negative : Bool) (c up down : ℕ) {n : Bool} {d p : ℕ} → limited negative c up down ≡ Fits n d p → within_limits d p ≡ true
unfolding limited
limited-within negative c up down {n} {d} {p} h =
    by-test (λ (v : Value). v ≡ Fits n d p → within_limits d p ≡ true) (leb down (up + 15) && within_limits c (up + 15 - down)) _ _
    (λ e q.
    let cs : c ≡ d = cc in
    let ps : up + 15 - down ≡ p = cc in
    rw (← cs, ← ps) (both_right (leb down (up + 15)) (within_limits c (up + 15 - down)) e))
    (λ e q.
    let z : ◌≡◌ {A = ℕ} 0 1 = cc in
    absurd (omega arith))
    h

module _ (negative : Bool) (c zeros fraction : ℕ) (below : Bool) (e : ℕ) where
  pub value-zero : c ≡ 0 → value_of negative c zeros fraction below e ≡ Fits false 0 15
  unfolding value_of
  value-zero z = rw (eq-eqb c 0 z)

  pub value-below : (c ≡ 0 → ⊥) → below ≡ true → value_of negative c zeros fraction below e ≡ limited negative c (0 + zeros) (e + fraction)
  unfolding value_of
  value-below n t = rw (ne_eqb c 0 n, t)

  pub value-above : (c ≡ 0 → ⊥) → below ≡ false → value_of negative c zeros fraction below e ≡ limited negative c (e + zeros) fraction
  unfolding value_of
  value-above n t = rw (ne_eqb c 0 n, t)

  pub value-c : largest < c → value_of negative c zeros fraction below e ≡ Beyond
  unfolding value_of
  value-c h =
      let n : c ≡ 0 → ⊥ = omega arith in
      rw (ne_eqb c 0 n) (limited-c negative c _ _ h)

-- an exponent that no count makes up for: below zero the zeros would, otherwise the fraction
pub value-e : (negative : Bool) (c zeros fraction : ℕ) (below : Bool) (e : ℕ) → (c ≡ 0 → ⊥) → zeros + 15 < e → fraction + 15 < e → value_of negative c zeros fraction below e ≡ Beyond
value-e negative c zeros fraction true e n h g =
    value-below negative c zeros fraction true e n refl ∙
    limited-low negative c (0 + zeros) (e + fraction) (omega arith)
value-e negative c zeros fraction false e n h g =
    value-above negative c zeros fraction false e n refl ∙
    limited-high negative c (e + zeros) fraction (omega arith)

-- the cap decides as the numbers themselves do: first c, then the exponent beside counts that a file has room for
pub c-capped : (negative : Bool) (c zeros fraction : ℕ) (below : Bool) (e : ℕ) → value_of negative (min c cap) zeros fraction below e ≡ value_of negative c zeros fraction below e
c-capped negative c zeros fraction below e = go (dec_le c cap)
  where
    go : Dec (c ≤ cap) → value_of negative (min c cap) zeros fraction below e ≡ value_of negative c zeros fraction below e
    go (yes h) = rw (min-eq_left h)
    go (no h) = value-c negative (min c cap) zeros fraction below e (omega arith) ∙ sym (value-c negative c zeros fraction below e (omega arith))

pub e-capped : (negative : Bool) (c zeros fraction : ℕ) (below : Bool) (e : ℕ) → zeros < 2 ^ 63 → fraction < 2 ^ 63 → value_of negative c zeros fraction below (min e cap) ≡ value_of negative c zeros fraction below e
e-capped negative c zeros fraction below e k f = go (dec_le e cap) (ℕ_discrete c 0)
  where
    go : Dec (e ≤ cap) → Dec (c ≡ 0) → value_of negative c zeros fraction below (min e cap) ≡ value_of negative c zeros fraction below e
    go (yes h) z = rw (min-eq_left h)
    go (no h) (yes z) = value-zero negative c zeros fraction below (min e cap) z ∙ sym (value-zero negative c zeros fraction below e z)
    go (no h) (no n) =
        value-e negative c zeros fraction below (min e cap) n (omega arith) (omega arith) ∙
        sym (value-e negative c zeros fraction below e n (omega arith) (omega arith))

-- ---- A value that fits is within the limits, and in its form
pub limited-parts : (negative : Bool) (c up down : ℕ) {n : Bool} {d p : ℕ} → limited negative c up down ≡ Fits n d p → (n ≡ negative) × (c ≡ d) × (p + down ≡ up + 15)
unfolding limited
limited-parts negative c up down {n} {d} {p} h =
    by-test (λ (v : Value). v ≡ Fits n d p → (n ≡ negative) × (c ≡ d) × (p + down ≡ up + 15)) (leb down (up + 15) && within_limits c (up + 15 - down)) _ _
    (λ e q.
    let ps : up + 15 - down ≡ p = cc in
    let room : down ≤ up + 15 = leb-true down (up + 15) (both_left (leb down (up + 15)) (within_limits c (up + 15 - down)) e) in
    (cc, cc, omega arith))
    (λ e q.
    let z : ◌≡◌ {A = ℕ} 0 1 = cc in
    absurd (omega arith))
    h

zero-within : {n : Bool} {d p : ℕ} → Fits false 0 15 ≡ Fits n d p → within_limits d p ≡ true
unfolding within_limits
zero-within {n} {d} {p} q =
    let ds : ◌≡◌ {A = ℕ} 0 d = cc in
    let ps : ◌≡◌ {A = ℕ} 15 p = cc in
    rw (← ds, ← ps)

zero-form : {n : Bool} {d p : ℕ} → Fits false 0 15 ≡ Fits n d p → InForm n d p
zero-form {n} {d} {p} q =
    let ns : n ≡ false = cc in
    let ds : d ≡ 0 = cc in
    let ps : p ≡ 15 = cc in
    (λ _. (ns, ps), λ z. absurd (z ds))

module _ (negative : Bool) (c zeros fraction : ℕ) (below : Bool) (e : ℕ) {n : Bool} {d p : ℕ} where
  pub value-within : value_of negative c zeros fraction below e ≡ Fits n d p → within_limits d p ≡ true
  unfolding value_of
  value-within h =
      by-test (λ (v : Value). v ≡ Fits n d p → within_limits d p ≡ true) (eqb c 0) _ _
      (λ z. zero-within)
      (λ z. limited-within negative c (cond below 0 e + zeros) (cond below (e + fraction) fraction))
      h

  pub value-form : ((c ≡ 0 → ⊥) → c % 10 ≡ 0 → ⊥) → value_of negative c zeros fraction below e ≡ Fits n d p → InForm n d p
  unfolding value_of
  value-form t h =
      by-test (λ (v : Value). v ≡ Fits n d p → InForm n d p) (eqb c 0) _ _
      (λ z. zero-form)
      (λ z q.
      let same : c ≡ d = (limited-parts negative c (cond below 0 e + zeros) (cond below (e + fraction) fraction) q).1 in
      rw (← same) (λ y. absurd (eqb-false c 0 z y), t))
      h
