-- Where each record's key is less than the next one's, no two records have one key, and the rule holds. And one turn of the
-- search for a record whose key is not.
-- Assumes nothing.
use Prim.Native.Nat.{ℕ, zero, suc, ◌+◌, ◌-◌, ◌≤◌, ◌<◌}
use mathlib.Core.Path.{◌≡◌, refl, sym, ap, ◌∙◌}
use mathlib.Core.Bool.{Bool, true, false}
use mathlib.Core.List.{List}
use native.Mathlib.Nat.{sub-zero}
use native.Mathlib.Omega.{arith}
use borrow.Author.Tests.{eqb-true}
use Rattle.text_order.specs.declared.Compared.{Compared}
use Rattle.text_order.specs.declared.Compared.TheVariants.{Less, Same, More}
use Rattle.rule_cells.specs.Cells.{Table, table, text_of, integer_in, date_in, first_that}
use Rattle.rule_cells.proofs.First.{first-none}
use Rattle.rule_key.specs.declared.Key.{Key}
use Rattle.rule_key.specs.Key.{same_key, key_rule}
use Rattle.rule_key.proofs.Laws.{Distinct}
use Rattle.key_order.specs.Order.{field_parts, field_order, key_order}
use Rattle.key_order.proofs.Compared.{Comparison}
use Rattle.key_order.proofs.Laws.{key-comparison, same-key-order}
use Rattle.ordered_key.specs.Ascending.{is_not_less, no_rise, ascending}
use Rattle.ordered_key.proofs.None.{NoneLeft, none-goes-on, one-hits, none-ends, distinct-gives-rule}

-- ---- the search: what is left of it at record i
module _ (order : ℕ → ℕ → Compared) (n i : ℕ) where
  abbrev pub Climbed : Type 0
  Climbed = NoneLeft (ascending order n) (no_rise order) (n - 1) i

pub climb-starts : (order : ℕ → ℕ → Compared) (n : ℕ) → Climbed order n 0
unfolding ascending first_that
climb-starts order n = rw sub-zero

module _ (order : ℕ → ℕ → Compared) (n i j : ℕ) (next : j ≡ i + 1) (w : Climbed order n i) where
  module _ (l : j < n) (r : Compared) (is : r ≡ order i j) where
    here : (a : Compared) → r ≡ a → no_rise order i ≡ is_not_less a
    unfolding no_rise
    here a e = rw (← next) (ap is_not_less (sym is ∙ e))

    pub climb-goes-on : r ≡ Less → Climbed order n j
    unfolding is_not_less
    climb-goes-on e = rw next (none-goes-on _ (no_rise order) (n - 1) i w (omega arith) (here Less e))

    pub falls-here : (r ≡ Less → ⊥) → false ≡ ascending order n
    unfolding is_not_less
    falls-here h = go r refl
      where
        go : (a : Compared) → r ≡ a → false ≡ ascending order n
        go Less e = absurd (h e)
        go Same e = one-hits _ (no_rise order) (n - 1) i w (omega arith) (here Same e)
        go More e = one-hits _ (no_rise order) (n - 1) i w (omega arith) (here More e)

  pub climb-ends : n ≤ j → true ≡ ascending order n
  climb-ends l = none-ends _ (no_rise order) (n - 1) i w (omega arith)

-- ---- where each record is less than the next, it is less than every later one
module _ (order : ℕ → ℕ → Compared) (n : ℕ) (e : ascending order n ≡ true) where
  next-less : (i : ℕ) → i + 1 < n → order i (i + 1) ≡ Less
  unfolding ascending no_rise is_not_less
  next-less i l =
      go (order i (i + 1)) (first-none (no_rise order) (n - 1) (eqb-true (first_that (no_rise order) (n - 1)) 0 e) i (omega arith))
    where
      go : (a : Compared) → is_not_less a ≡ false → a ≡ Less
      go Less h = refl
      go Same h = cc
      go More h = cc

  later-by : Comparison order → (i d : ℕ) → i + d + 1 < n → order i (i + d + 1) ≡ Less
  later-by c i zero l = let z : i + 0 ≡ i = omega arith in rw z (next-less i (omega arith))
  later-by c i (suc d) l =
      let z : i + suc d ≡ i + d + 1 = omega arith in
      rw z (c.less i (i + d + 1) (i + d + 1 + 1) (later-by c i d (omega arith)) (next-less (i + d + 1) (omega arith)))

  pub later-less : Comparison order → (i j : ℕ) → i < j → j < n → order i j ≡ Less
  later-less c i j l u =
      let z : i + (j - i - 1) + 1 ≡ j = omega arith in
      rw z at (later-by c i (j - i - 1) (omega arith))

-- ---- so no two records have one key
module _ (t : Table) (key : Key) (e : ascending (key_order t key) t.records ≡ true) where
  pub ascending-distinct : Distinct t key
  unfolding Distinct
  ascending-distinct i j l u = go (same_key t key i j) refl
    where
      go : (b : Bool) → same_key t key i j ≡ b → b ≡ false
      go false f = refl
      go true f = let n : Less ≡ Same = sym (later-less (key_order t key) t.records e (key-comparison t key) i j l u) ∙ same-key-order t key i j f in cc

-- ---- how many records a table has is no matter for two of them
pub ascending-gives-rule : (s cells : List ℕ) (width n : ℕ) (key : Key) (r : Bool) → r ≡ ascending (key_order (table s cells width 0) key) n → r ≡ true → record { «record» = 0; same = 0 } ≡ key_rule (table s cells width n) key
unfolding key_order field_order field_parts text_of integer_in date_in
ascending-gives-rule s cells width n key r is e = sym (distinct-gives-rule (table s cells width n) key (ascending-distinct (table s cells width n) key (sym is ∙ e)))
