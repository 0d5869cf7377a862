-- The first field of a run, and what each rule over a run comes to.
-- Assumes nothing.
use Prim.Native.Nat.{ℕ, zero, suc, ◌+◌, ◌-◌, ◌≤◌, ◌<◌}
use mathlib.Core.Path.{◌≡◌, refl, sym, ap, ◌∙◌}
use mathlib.Core.Bool.{Bool, true, false, not, ◌&&◌}
use mathlib.Core.List.{List, []}
use mathlib.Core.Logic.{◌⊎◌, inl, inr, ◌↔◌}
use native.Mathlib.Nat.{eq-or-lt_of_le}
use native.Mathlib.Numerals.{add-one}
use native.Mathlib.Omega.{arith}
use borrow.Author.Tests.{ltb-true, ltb-false, not-false}
use Rattle.json_number.specs.declared.Sign.{Sign}
use Rattle.json_number.specs.declared.Sign.TheVariants.{Zero, Above, Below}
use Rattle.rule_cells.proofs.First.{first-is-none}
use Rattle.rule_cells.specs.Cells.{Table, table, is_given, sign_in}
use Rattle.rule_hours.specs.Hours.{field_from, first_field_that, any_field, below_zero, above_zero, lies_below, is_above, is_null, breaks, none_below_rule, some_above_rule, together_rule}
use Rattle.rule_hours.specs.declared.Shape.TheVariants.{SomeBelow, NoneAbove, Mixed}

-- ---- the first field that passes: what is left of the search at field k
module _ (test : ℕ → Bool) (to k : ℕ) where
  pub field-hits : k < to → test k ≡ true → field_from test to (to - k) k ≡ k
  unfolding field_from
  field-hits l e =
      let q : to - k ≡ suc (to - (k + 1)) = omega arith in
      rw (q, e, field_from)

  pub field-goes-on : k < to → test k ≡ false → field_from test to (to - k) k ≡ field_from test to (to - (k + 1)) (k + 1)
  unfolding field_from
  field-goes-on l e =
      let q : to - k ≡ suc (to - (k + 1)) = omega arith in
      rw (q, e, field_from, add-one k)

  pub field-ends : to ≤ k → field_from test to (to - k) k ≡ to
  unfolding field_from
  field-ends l =
      let q : to - k ≡ 0 = omega arith in
      rw q

-- all three, for the loop over a run of fields
pub ruleset running = (field-hits, field-goes-on, field-ends)

-- ---- what the searches come to
told : (b : Bool) → (b ≡ true) ⊎ (b ≡ false)
told true = inl refl
told false = inr refl

clash : (b : Bool) → b ≡ true → b ≡ false → ⊥
clash b p q = let z : ◌≡◌ {A = ℕ} 0 1 = cc in omega arith

module _ (test : ℕ → Bool) (to : ℕ) where
  from-before : (n k : ℕ) → to ≤ k + n → (j : ℕ) → k ≤ j → j < field_from test to n k → test j ≡ false
  unfolding field_from
  from-before zero k h j l m = absurd (omega arith)
  from-before (suc n) k h j l m =
      elim (told (test k)) [
        | inl e ↦ absurd (let q = rw (e, field_from) at m in omega arith)
        | inr e ↦ elim (eq-or-lt_of_le l) [ inl p ↦ rw p at e | inr p ↦ from-before n (suc k) (omega arith) j p (rw (e, field_from) at m) ]
      ]

  from-passes : (n k : ℕ) → field_from test to n k < to → (k ≤ field_from test to n k) × (test (field_from test to n k) ≡ true)
  unfolding field_from
  from-passes zero k m = absurd (omega arith)
  from-passes (suc n) k m =
      elim (told (test k)) [
        | inl e ↦ rw (e, field_from) (omega arith, e)
        | inr e ↦ (let q = from-passes n (suc k) (rw (e, field_from) at m) in rw (e, field_from) (omega arith, q.1))
      ]

module _ (test : ℕ → Bool) (from to : ℕ) where
  -- no field of the run before the first that passes does
  pub before-first : (k : ℕ) → from ≤ k → k < first_field_that test from to → test k ≡ false
  unfolding first_field_that
  before-first k l m = from-before test to (to - from) from (omega arith) k l m

  -- where it is a field of the run, it passes
  pub first_passes : first_field_that test from to < to → (from ≤ first_field_that test from to) × (test (first_field_that test from to) ≡ true)
  unfolding first_field_that
  first_passes m = from-passes test to (to - from) from m

  pub any-shows : any_field test from to ≡ true → (k : ℕ) × (from ≤ k) × (k < to) × (test k ≡ true)
  unfolding any_field
  any-shows e =
      let m = ltb-true (first_field_that test from to) to e in
      let q = first_passes m in
      (first_field_that test from to, q.0, m, q.1)

  pub none-shows : any_field test from to ≡ false → (k : ℕ) → from ≤ k → k < to → test k ≡ false
  unfolding any_field
  none-shows e k l m =
      let q = ltb-false (first_field_that test from to) to e in
      before-first k l (omega arith)

  pub shown-any : (k : ℕ) → from ≤ k → k < to → test k ≡ true → any_field test from to ≡ true
  shown-any k l m e =
      elim (told (any_field test from to)) [ inl q ↦ q | inr q ↦ absurd (clash (test k) e (none-shows q k l m)) ]

  pub shown-none : ((k : ℕ) → from ≤ k → k < to → test k ≡ false) → any_field test from to ≡ false
  shown-none h =
      elim (told (any_field test from to)) [
        | inl q ↦ (let w = any-shows q in absurd (clash (test w.0) w.3 (h w.0 w.1 w.2)))
        | inr q ↦ q
      ]

-- ---- what the rules come to
pub other-than-below : (g : Sign) → (g ≡ Below → ⊥) → below_zero g ≡ false
other-than-below Below h = absurd (h refl)
other-than-below Zero h = refl
other-than-below Above h = refl

pub is-above : (g : Sign) → above_zero g ≡ true → g ≡ Above
is-above Above e = refl
is-above Zero e = absurd (clash false e refl)
is-above Below e = absurd (clash false e refl)

module _ (t : Table) (from to : ℕ) where
  -- 68 and 70 hold exactly if no field of the run is below zero in any record
  pub none-below-says : (none_below_rule t from to ≡ 0) ↔ ((r k : ℕ) → r < t.records → from ≤ k → k < to → sign_in t r k ≡ Below → ⊥)
  unfolding none_below_rule breaks lies_below
  none-below-says =
      let none = first-is-none (breaks SomeBelow t from to) t.records in (
        λ z r k m a b e. clash (lies_below t r k) (ap below_zero e) (none-shows (lies_below t r) from to (none.0 z r m) k a b),
        λ h. none.1 (λ r m. shown-none (lies_below t r) from to (λ k a b. other-than-below (sign_in t r k) (h r k m a b))),
      )

  -- 69 holds exactly if each record has a field of the run that is above zero
  pub some-above-says : (some_above_rule t from to ≡ 0) ↔ ((r : ℕ) → r < t.records → (k : ℕ) × (from ≤ k) × (k < to) × (sign_in t r k ≡ Above))
  unfolding some_above_rule breaks is_above
  some-above-says =
      let none = first-is-none (breaks NoneAbove t from to) t.records in (
        λ z r m. (let w = any-shows (is_above t r) from to (not-false _ (none.0 z r m)) in (w.0, w.1, w.2, is-above _ w.3)),
        λ h. none.1 (λ r m. (let w = h r m in ap not (shown-any (is_above t r) from to w.0 w.1 w.2 (ap above_zero w.3)))),
      )

-- some of a run are given and some are not, but where all are alike
module _ (given : ℕ → Bool) (from to : ℕ) where
  mixed : Bool
  mixed = any_field given from to && any_field (λ (k : ℕ). not (given k)) from to

  two-kinds : (j k : ℕ) → from ≤ j → j < to → from ≤ k → k < to → given j ≡ true → given k ≡ false → mixed ≡ true
  unfolding mixed
  two-kinds j k a b c d p q =
      rw (shown-any given from to j a b p, shown-any (λ (m : ℕ). not (given m)) from to k c d (ap not q))

  one-kind : mixed ≡ false → (j k : ℕ) → from ≤ j → j < to → from ≤ k → k < to → given j ≡ given k
  one-kind e j k a b c d =
      elim (told (given j)) [
        | inl p ↦ elim (told (given k)) [ inl q ↦ p ∙ sym q | inr q ↦ absurd (clash mixed (two-kinds j k a b c d p q) e) ]
        | inr p ↦ elim (told (given k)) [ inl q ↦ absurd (clash mixed (two-kinds k j c d a b q p) e) | inr q ↦ p ∙ sym q ]
      ]

  alike : ((j k : ℕ) → from ≤ j → j < to → from ≤ k → k < to → given j ≡ given k) → mixed ≡ false
  unfolding mixed
  alike h =
      elim (told (any_field given from to)) [
        | inl q ↦ (let w = any-shows given from to q in
            rw q (shown-none (λ (m : ℕ). not (given m)) from to (λ k a b. ap not (h k w.0 a b w.1 w.2 ∙ w.3))))
        | inr q ↦ rw q
      ]

-- 75 holds exactly if in each record any two fields of the run are both given or both null
module _ (cells : List ℕ) (width records from to : ℕ) where
  pub together-says : (together_rule cells width records from to ≡ 0) ↔ ((r j k : ℕ) → r < records → from ≤ j → j < to → from ≤ k → k < to → is_given cells width r j ≡ is_given cells width r k)
  unfolding together_rule breaks is_null mixed
  together-says =
      let none = first-is-none (breaks Mixed (table [] cells width records) from to) records in (
        λ z r j k m. one-kind (is_given cells width r) from to (none.0 z r m) j k,
        λ h. none.1 (λ r m. alike (is_given cells width r) from to (λ j k. h r j k m)),
      )
