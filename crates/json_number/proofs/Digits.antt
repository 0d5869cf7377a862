-- One digit more, and what is carried of the digits so far.
-- Assumes nothing.
use Prim.Native.Nat.{ℕ, suc, ◌+◌, ◌*◌, ◌-◌, ◌%◌, ◌≤◌, ◌<◌, min}
use mathlib.Core.Path.{◌≡◌, refl, sym, ap, ◌∙◌}
use mathlib.Core.Bool.{Bool, true, false, cond}
use mathlib.Core.List.{List, [], ◌∷◌}
use native.Mathlib.Decide.{ℕ_discrete}
use native.Mathlib.Numerals.{add-one}
use native.Mathlib.Omega.{arith}
use borrow.Author.Tests.{eq-eqb, ne_eqb}
use lib.ListN.{length, drop, drop_of_length-le}
use lib.Seq.{drop-cons}
use lib.Dec.{eqb}
use Rattle.json_bytes.specs.Reads.{byte_at, leading}
use Rattle.json_bytes.proofs.Laws.{within-from, within-to}
use Rattle.json_number.specs.Number.{is_digit, formed, end_zeros, trimmed}
use Rattle.json_number.specs.Capped.{cap, Carried}
use Rattle.json_number.proofs.Trim.{zeros_of, trimmed-of, zero-behind, no_zero, trims, zeros-zero, trimmed-zero, trimmed-nonzero}

pub digit-range : (b : ℕ) → is_digit b ≡ true → (48 ≤ b) × (b ≤ 57)
unfolding is_digit
digit-range b e = (within-from 48 57 b e, within-to 48 57 b e)

module _ (s : List ℕ) (i n : ℕ) where
  pub formed-more : i < length s → is_digit (byte_at s i) ≡ true → formed n (drop i s) ≡ formed (n * 10 + (byte_at s i - 48)) (drop (i + 1) s)
  unfolding formed
  formed-more l e = rw (drop-cons s i 0 l, e, formed, add-one i)

  pub formed-stops : i < length s → is_digit (byte_at s i) ≡ false → formed n (drop i s) ≡ n
  unfolding formed
  formed-stops l e = rw (drop-cons s i 0 l, e, formed)

  pub formed-ends : length s ≤ i → formed n (drop i s) ≡ n
  unfolding formed
  formed-ends l = rw (drop_of_length-le s l)

-- ---- What is carried
-- of no digits
pub carried_none : Carried 0 0 0 0
carried_none = (omega arith, rw trimmed-zero (omega arith), sym zeros-zero)

-- one digit more
module _ (x b : ℕ) (range : (48 ≤ b) × (b ≤ 57)) where
  digit-zero : b ≡ 48 → x ≡ 0 → (trimmed (x * 10 + (b - 48)) ≡ 0) × (end_zeros (x * 10 + (b - 48)) ≡ 0)
  digit-zero e z =
      let none : x * 10 + (b - 48) ≡ 0 = omega arith in
      (ap trimmed none ∙ trimmed-zero, ap end_zeros none ∙ zeros-zero)

  digit-behind : b ≡ 48 → (x ≡ 0 → ⊥) → (trimmed (x * 10 + (b - 48)) ≡ trimmed x) × (end_zeros (x * 10 + (b - 48)) ≡ end_zeros x + 1)
  digit-behind e n =
      let ten : x * 10 + (b - 48) ≡ x * 10 = omega arith in
      (ap trimmed ten ∙ trimmed-of (zero-behind (trims x n)), ap end_zeros ten ∙ zeros_of (zero-behind (trims x n)))

  digit-other : (b ≡ 48 → ⊥) → (trimmed (x * 10 + (b - 48)) ≡ x * 10 + (b - 48)) × (end_zeros (x * 10 + (b - 48)) ≡ 0)
  digit-other n =
      let rest : (x * 10 + (b - 48)) % 10 ≡ 0 → ⊥ = omega arith in
      (trimmed-of (no_zero (x * 10 + (b - 48)) rest), zeros_of (no_zero (x * 10 + (b - 48)) rest))

  pub zeros-step : end_zeros (x * 10 + (b - 48)) ≤ end_zeros x + 1
  zeros-step = go (ℕ_discrete b 48) (ℕ_discrete x 0)
    where
      go : Dec (b ≡ 48) → Dec (x ≡ 0) → end_zeros (x * 10 + (b - 48)) ≤ end_zeros x + 1
      go (yes e) (yes z) = omega (arith, (digit-zero e z).1)
      go (yes e) (no n) = omega (arith, (digit-behind e n).1)
      go (no n) z = omega (arith, (digit-other n).1)

  pub carried-turn : {value kept trailing value' kept' trailing' : ℕ} → Carried x value kept trailing → value' ≡ min (value * 10 + (b - 48)) cap → trailing' ≡ cond (eqb b 48) (cond (eqb kept 0) 0 (trailing + 1)) 0 → kept' ≡ cond (eqb b 48) kept value' → Carried (x * 10 + (b - 48)) value' kept' trailing'
  carried-turn {value} {kept} {trailing} {value'} {kept'} {trailing'} h ve ze ke = go (ℕ_discrete b 48) (ℕ_discrete x 0)
    where
      all : value' ≡ min (x * 10 + (b - 48)) cap
      all = omega (arith, h.0)

      go : Dec (b ≡ 48) → Dec (x ≡ 0) → Carried (x * 10 + (b - 48)) value' kept' trailing'
      go (yes e) (yes z) =
          let gone : kept ≡ 0 = h.1 ∙ rw z (rw trimmed-zero (omega arith)) in (
            all,
            ke ∙ rw (eq-eqb b 48 e, (digit-zero e z).0) (gone ∙ omega arith),
            ze ∙ rw (eq-eqb b 48 e, eq-eqb kept 0 gone) (sym (digit-zero e z).1),
          )
      go (yes e) (no n) =
          let stays : kept ≡ 0 → ⊥ = omega (arith, h.1, trimmed-nonzero x n) in (
            all,
            ke ∙ rw (eq-eqb b 48 e, (digit-behind e n).0) h.1,
            ze ∙ rw (eq-eqb b 48 e, ne_eqb kept 0 stays, (digit-behind e n).1) (ap (λ (k : ℕ). k + 1) h.2),
          )
      go (no n) z = (
        all,
        ke ∙ rw (ne_eqb b 48 n, (digit-other n).0) all,
        ze ∙ rw (ne_eqb b 48 n) (sym (digit-other n).1),
      )

-- the loop over digits: what is carried of x goes on to what is carried of a number behind which the digits from i on form
-- what those from `at` on form behind x
abbrev pub Goes : List ℕ → ℕ → ℕ → ℕ → ℕ → ℕ → ℕ → ℕ → ℕ → Type 0
Goes s at before nonzero ending i value kept trailing = (x : ℕ) → Carried x before nonzero ending → (y : ℕ) × Carried y value kept trailing × (formed y (drop i s) ≡ formed x (drop at s))

module _ (s : List ℕ) (at before nonzero ending i : ℕ) {value kept trailing : ℕ} (g : Goes s at before nonzero ending i value kept trailing) where
  pub goes_on : {value' kept' trailing' : ℕ} → i < length s → is_digit (byte_at s i) ≡ true → value' ≡ min (value * 10 + (byte_at s i - 48)) cap → trailing' ≡ cond (eqb (byte_at s i) 48) (cond (eqb kept 0) 0 (trailing + 1)) 0 → kept' ≡ cond (eqb (byte_at s i) 48) kept value' → Goes s at before nonzero ending (i + 1) value' kept' trailing'
  goes_on l d ve ze ke x h =
      let y : ℕ = (g x h).0 in (
        y * 10 + (byte_at s i - 48),
        carried-turn y (byte_at s i) (digit-range (byte_at s i) d) (g x h).1 ve ze ke,
        sym (formed-more s i y l d) ∙ (g x h).2,
      )

  pub goes-ends : ((y : ℕ) → formed y (drop i s) ≡ y) → (x : ℕ) → Carried x before nonzero ending → Carried (formed x (drop at s)) value kept trailing
  goes-ends f x h = rw (← (g x h).2, f (g x h).0) (g x h).1

pub zeros-bound : (b kept trailing trailing' i : ℕ) → trailing' ≡ cond (eqb b 48) (cond (eqb kept 0) 0 (trailing + 1)) 0 → trailing ≤ i → trailing' ≤ i + 1
zeros-bound b kept trailing trailing' i = go (eqb b 48) (eqb kept 0)
  where
    go : (t u : Bool) → trailing' ≡ cond t (cond u 0 (trailing + 1)) 0 → trailing ≤ i → trailing' ≤ i + 1
    go true true e h = omega (arith, e)
    go true false e h = omega (arith, e)
    go false u e h = omega (arith, e)

-- no more zeros end a number than ended what stood before, and digits
pub formed-zeros : (l : List ℕ) (n : ℕ) → end_zeros (formed n l) ≤ end_zeros n + leading is_digit l
unfolding formed leading
formed-zeros [] n = omega arith
formed-zeros (b ∷ bs) n = go (is_digit b) refl (formed-zeros bs (n * 10 + (b - 48)))
  where
    go : (t : Bool) → is_digit b ≡ t → end_zeros (formed (n * 10 + (b - 48)) bs) ≤ end_zeros (n * 10 + (b - 48)) + leading is_digit bs → end_zeros (elim t [ true ↦ formed (n * 10 + (b - 48)) bs | false ↦ n ]) ≤ end_zeros n + (elim t [ true ↦ suc (leading is_digit bs) | false ↦ 0 ])
    go true e h = omega (arith, zeros-step n b (digit-range b e))
    go false e h = omega arith

-- ---- Whether a run has digits, from the place behind it
pub run_none : {end at : ℕ} (k : ℕ) → end ≡ at + k → end ≡ at → eqb k 0 ≡ true
run_none k e h = eq-eqb k 0 (omega arith)

pub run-some : {end at : ℕ} (k : ℕ) → end ≡ at + k → (end ≡ at → ⊥) → eqb k 0 ≡ false
run-some k e h = ne_eqb k 0 (omega arith)
