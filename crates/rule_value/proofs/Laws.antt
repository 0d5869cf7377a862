-- The search among an enumeration's values, one turn at a time; a value that is one of them; and what that means for the rule.
-- Assumes nothing.
use Prim.Native.Nat.{ℕ, zero, suc, ◌+◌, ◌-◌, ◌≤◌, ◌<◌}
use mathlib.Core.Path.{◌≡◌, refl, sym, ap, ◌∙◌}
use mathlib.Core.Bool.{Bool, true, false}
use mathlib.Core.List.{List}
use native.Mathlib.Nat.{add-suc, add-zero}
use native.Mathlib.Numerals.{add-one}
use native.Mathlib.Omega.{arith}
use borrow.Author.Tests.{lt-ltb, le-ltb}
use lib.Dec.{ltb}
use Rattle.rule_cells.specs.Cells.{Table, is_given}
use Rattle.rule_when.specs.When.{is_value}
use Rattle.rule_value.specs.declared.FieldRule.TheVariants.{OneOf}
use Rattle.rule_value.specs.Value.{is_one_of, breaks_field}

module _ (t : Table) (r k : ℕ) (places texts : List ℕ) (v n i : ℕ) where
  pub one-hits : i < n → is_value t r k places texts (v + i) ≡ true → is_one_of t r k places texts (n - i) (v + i) ≡ true
  unfolding is_one_of
  one-hits l e =
      let q : n - i ≡ suc (n - (i + 1)) = omega arith in
      rw (q, e, is_one_of)

  pub one-goes-on : i < n → is_value t r k places texts (v + i) ≡ false → is_one_of t r k places texts (n - i) (v + i) ≡ is_one_of t r k places texts (n - (i + 1)) (v + (i + 1))
  unfolding is_one_of
  one-goes-on l e =
      let q : n - i ≡ suc (n - (i + 1)) = omega arith in
      rw (q, e, is_one_of, add-one i, add-suc v i)

  pub one-ends : n ≤ i → is_one_of t r k places texts (n - i) (v + i) ≡ false
  unfolding is_one_of
  one-ends l =
      let q : n - i ≡ 0 = omega arith in
      rw q

-- all three, for the loop over an enumeration's values
pub ruleset choosing = (one-hits, one-goes-on, one-ends)

module _ (t : Table) (r k : ℕ) (places texts : List ℕ) where
  -- one of the values behind the first is one of them all
  one-behind : (n v : ℕ) → is_one_of t r k places texts n (suc v) ≡ true → is_one_of t r k places texts (suc n) v ≡ true
  unfolding is_one_of
  one-behind n v e = go (is_value t r k places texts v)
    where
      go : (b : Bool) → (elim b [ true ↦ true | false ↦ is_one_of t r k places texts n (suc v) ]) ≡ true
      go true = refl
      go false = e

  -- any of the values may be tried first
  pub one_found : (i n v : ℕ) → i < n → is_value t r k places texts (v + i) ≡ true → is_one_of t r k places texts n v ≡ true
  unfolding is_one_of
  one_found i zero v l e = absurd (omega arith)
  one_found zero (suc n) v l e =
      let q : is_value t r k places texts v ≡ true = ap (is_value t r k places texts) (sym (add-zero v)) ∙ e in
      rw (q, is_one_of)
  one_found (suc i) (suc n) v l e =
      let q : suc v + i ≡ v + suc i = omega arith in
      one-behind n v (one_found i n (suc v) (omega arith) (ap (is_value t r k places texts) q ∙ e))

  -- ---- what the value that was found tells of the rule
  module _ (v n x : ℕ) (g : is_given t.cells t.width r k ≡ true) (e : ltb x n ≡ is_one_of t r k places texts n v) where
    pub none-breaks : n ≤ x → breaks_field t k (OneOf v n) places texts r ≡ true
    unfolding breaks_field
    none-breaks h = rw (g, ← e, le-ltb x n h)

    pub one_holds : x < n → breaks_field t k (OneOf v n) places texts r ≡ false
    unfolding breaks_field
    one_holds h = rw (g, ← e, lt-ltb x n h)

  pub null-holds : (v n : ℕ) → is_given t.cells t.width r k ≡ false → breaks_field t k (OneOf v n) places texts r ≡ false
  unfolding breaks_field
  null-holds v n g = rw g
