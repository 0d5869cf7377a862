-- What a value says: the form of a number that its digits and its exponent write, and no other.
-- Assumes nothing.
use Prim.Native.Nat.{ℕ, ◌+◌, ◌*◌, ◌%◌, ◌^◌, ◌≤◌, ◌<◌}
use mathlib.Core.Path.{◌≡◌, refl, sym, ap, ◌∙◌}
use mathlib.Core.Bool.{Bool, true, false, cond}
use mathlib.Core.Logic.{◌↔◌, ◌⊎◌, inl, inr, ⊎_elim}
use native.Mathlib.Nat.{mul_assoc, zero-mul, zero-add}
use native.Mathlib.Decide.{dec_le}
use native.Mathlib.Omega.{arith}
use lib.ListN.{length}
use lib.Pow.{pow-add}
use Rattle.json_number.specs.Number.{end_zeros, trimmed, largest, within_limits, limited, value_of}
use Rattle.json_number.specs.declared.Value.{Value}
use Rattle.json_number.specs.declared.Value.TheVariants.{Fits, Beyond}
use Rattle.json_number.proofs.Scale.{nonzero, ten-pos}
use Rattle.json_number.proofs.Trim.{one_way, trims, trimmed-zero, trimmed-nonzero}
use Rattle.json_number.proofs.Limits.{within-c, within-p, limited-is, limited-fits, limited-c, limited-low, limited-high, limited-within, limited-parts, value-zero, value-below, value-above}
use Rattle.json_meaning.specs.Decimals.{Written, digits_value, has_minus, coefficient, raised_by, lowered_by, OneForm, MeansValue}

-- ---- The one form of a number that is not zero
module _ (w : Written) (n : coefficient w ≡ 0 → ⊥) where
  -- c without its zeros, t, and how many those are, z
  abbrev t : ℕ
  t = trimmed (coefficient w)

  abbrev z : ℕ
  z = end_zeros (coefficient w)

  -- the power of ten that stands on both sides
  same_power : (x : ℕ) → coefficient w * 10 ^ x ≡ t * 10 ^ (z + x)
  same_power x =
      let whole = (trims (coefficient w) n).whole in
      ap (λ (c : ℕ). c * 10 ^ x) whole ∙ mul_assoc t (10 ^ z) (10 ^ x) ∙ ap (λ (y : ℕ). t * y) (sym (pow-add 10 z x))

  -- it is this form, and p is up and the zeros less down
  form-is : {d raise lower : ℕ} → OneForm w d raise lower → (d ≡ t) × (raise + lowered_by w ≡ z + (raised_by w + lower))
  form-is {d} {raise} {lower} f =
      one_way (record { whole = refl; last = f.last })
      (record { whole = f.same ∙ same_power (raised_by w + lower); last = (trims (coefficient w) n).last })

  is-form : (d raise lower : ℕ) → d ≡ t → raise + lowered_by w ≡ z + (raised_by w + lower) → OneForm w d raise lower
  is-form d raise lower e p = record {
    last = λ q. (trims (coefficient w) n).last (ap (λ (x : ℕ). x % 10) (sym e) ∙ q);
    same = ap (λ (x : ℕ). x * 10 ^ (raise + lowered_by w)) e ∙ ap (λ (x : ℕ). t * 10 ^ x) p ∙ sym (same_power (raised_by w + lower));
  }

  -- ---- The limits
  abbrev Limited : Value
  Limited = limited w.negative t (raised_by w + z) (lowered_by w)

  limited-fits-is : (m : Bool) (d p15 : ℕ) → (Limited ≡ Fits m d p15) ↔ ((m ≡ w.negative) × OneForm w d p15 15 × (within_limits d p15 ≡ true))
  limited-fits-is m d p15 = (
    λ e. (let q = limited-parts w.negative t (raised_by w + z) (lowered_by w) e in
        (q.0, is-form d p15 15 (sym q.1) (omega (arith, q.2)), limited-within w.negative t (raised_by w + z) (lowered_by w) e)),
    λ h. (let f = form-is h.1 in
        limited-is w.negative t (raised_by w + z) (lowered_by w) {p = p15} (rw f.0 at (within-c d p15 h.2)) (omega (arith, f.1)) (within-p d p15 h.2) ∙
        rw (h.0, f.0)),
  )

  module _ {d raise lower : ℕ} (f : OneForm w d raise lower) where
    abbrev Outside : Type 0
    Outside = (largest < d) ⊎ ((raise + 15 < lower) ⊎ (lower + 15 < raise))

    outside-beyond : Outside → Limited ≡ Beyond
    outside-beyond =
        let p = (form-is f).1 in
        let e = (form-is f).0 in
        ⊎_elim
        (λ l. limited-c w.negative t (raised_by w + z) (lowered_by w) (omega arith))
        (⊎_elim (λ l. limited-low w.negative t (raised_by w + z) (lowered_by w) (omega arith)) (λ l. limited-high w.negative t (raised_by w + z) (lowered_by w) (omega arith)))

    beyond-outside : Limited ≡ Beyond → Outside
    beyond-outside b = go (dec_le d largest) (dec_le lower (raise + 15)) (dec_le raise (lower + 15))
      where
        go : Dec (d ≤ largest) → Dec (lower ≤ raise + 15) → Dec (raise ≤ lower + 15) → Outside
        go (no l) _ _ = inl (omega arith)
        go (yes l) (no m) _ = inr (inl (omega arith))
        go (yes l) (yes m) (no k) = inr (inr (omega arith))
        go (yes l) (yes m) (yes k) =
            let p = (form-is f).1 in
            let e = (form-is f).0 in
            let q = limited-fits w.negative t (raised_by w + z) (lowered_by w) (omega arith) (omega arith) (omega arith) in
            let no : ◌≡◌ {A = ℕ} 0 1 = cc in
            absurd (omega arith)

-- ---- The value of a number as it is written
module _ (w : Written) where
  abbrev Read : Value
  Read = value_of w.negative (trimmed (coefficient w)) (end_zeros (coefficient w)) (length w.fraction) (has_minus w.mark) (digits_value w.power)

  read-zero : coefficient w ≡ 0 → Read ≡ Fits false 0 15
  read-zero e = value-zero w.negative (trimmed (coefficient w)) _ _ _ _ (ap trimmed e ∙ trimmed-zero)

  read-limited : (n : coefficient w ≡ 0 → ⊥) → Read ≡ Limited w n
  read-limited n = go (has_minus w.mark)
    where
      go : (below : Bool) → value_of w.negative (t w n) (z w n) (length w.fraction) below (digits_value w.power) ≡ limited w.negative (t w n) (cond below 0 (digits_value w.power) + z w n) (cond below (digits_value w.power) 0 + length w.fraction)
      go true = value-below w.negative (t w n) _ _ true _ (trimmed-nonzero (coefficient w) n) refl
      go false = value-above w.negative (t w n) _ _ false _ (trimmed-nonzero (coefficient w) n) refl ∙ rw (zero-add (length w.fraction))

  form-exists : (n : coefficient w ≡ 0 → ⊥) → OneForm w (t w n) (z w n + raised_by w) (lowered_by w)
  form-exists n = is-form w n (t w n) (z w n + raised_by w) (lowered_by w) refl (omega arith)

  -- zero has no such form
  form-some : {d raise lower : ℕ} → OneForm w d raise lower → coefficient w ≡ 0 → ⊥
  form-some {d} {raise} {lower} f e =
      nonzero d (10 ^ (raise + lowered_by w)) (λ q. f.last (ap (λ (x : ℕ). x % 10) q)) (ten-pos (raise + lowered_by w) refl)
      (f.same ∙ ap (λ (x : ℕ). x * 10 ^ (raised_by w + lower)) e ∙ zero-mul (10 ^ (raised_by w + lower)))

  pub means : MeansValue w Read
  means = record {
    zero = read-zero;
    other = λ n. (t w n, z w n + raised_by w, lowered_by w, form-exists n);
    fits = λ n m d p15. rw (read-limited n) (limited-fits-is w n m d p15);
    beyond = λ d raise lower f. rw (read-limited (form-some f)) (beyond-outside w (form-some f) f, outside-beyond w (form-some f) f);
  }
