-- In an order by sums and then keys, records of one sum and one key stand side by side: so the rule can be read from it,
-- where records of one key have one sum.
-- Assumes nothing.
use Prim.Native.Nat.{ℕ, ◌-◌, ◌<◌}
use mathlib.Core.Path.{◌≡◌, refl, sym, ap, ◌∙◌}
use mathlib.Core.Bool.{Bool, true, false, cond, true≢false}
use mathlib.Core.List.{List, [], ◌∷◌}
use native.Mathlib.Omega.{arith}
use borrow.Author.Tests.{ltb-true, eqb-true, eq-eqb}
use lib.ListN.{length, get_or}
use lib.Dec.{eqb}
use Rattle.json_bytes.proofs.Laws.{both_left, both_right}
use Rattle.mark_numbers.proofs.Laws.{list_length, list_at}
use Rattle.text_order.specs.Order.{may_precede}
use Rattle.text_order.specs.declared.Compared.{Compared}
use Rattle.text_order.specs.declared.Compared.TheVariants.{Less, Same, More}
use Rattle.text_order.proofs.Laws.{by_less, same_lists, lists-same}
use Rattle.key_sum.specs.Sum.{sum_with}
use Rattle.rule_cells.specs.Cells.{Table, table, text_of, same_text, integer_in, date_in, first_from, first_that}
use Rattle.rule_cells.proofs.First.{First, first_found}
use Rattle.rule_key.specs.declared.Key.{Key}
use Rattle.rule_key.specs.declared.KeyBreak.{KeyBreak}
use Rattle.rule_key.specs.Key.{same_field, same_key, earliest, repeats, key_rule}
use Rattle.rule_key.proofs.Laws.{same-key-sym, repeats-none}
use Rattle.key_order.specs.Order.{and_then, key_order, number_order, record_order, precedes, field_sum, in_sum_order, are_fit, order_by_sums}
use Rattle.key_order.proofs.Compared.{Comparison, by_parts, by_both, both-same, same-both, then_next, each_way}
use Rattle.key_order.proofs.Laws.{key-comparison, precedes-anti, same-key-order, order-same-key, same-key-sum, same-second-sum}
use Rattle.key_order.proofs.Lists.{fit-lengths, fit-by-sums}
use Rattle.key_order.proofs.Listed.{in-sum-order-lists}
use Rattle.ordered_key.specs.Sums.{key_sum_of, key_sums}
use Rattle.ordered_key.specs.Repeat.{same_sum_and_key, least_repeat, break_at}
use Rattle.ordered_key.proofs.Neighbours.{SideBySide, first-is-least}

module _ (t : Table) (key : Key) (sums : List ℕ) where
  -- ---- two records by their sums and then their keys
  abbrev sum_then_key : ℕ → ℕ → Compared
  sum_then_key p q = and_then (number_order (get_or sums p 0) (get_or sums q 0)) (key_order t key p q)

  sum-then-key : Comparison sum_then_key
  unfolding number_order
  sum-then-key = by_both _ (by_parts (λ p. get_or sums p 0 ∷ [])) _ (key-comparison t key)

  -- a record that may stand before another may by these alone
  without-number : (p q : ℕ) → precedes t key sums p q ≡ true → may_precede (sum_then_key p q) ≡ true
  unfolding precedes record_order may_precede and_then
  without-number p q e = go (number_order (get_or sums p 0) (get_or sums q 0)) (key_order t key p q) (number_order p q) e
    where
      go : (a b c : Compared) → may_precede (and_then a (and_then b c)) ≡ true → may_precede (and_then a b) ≡ true
      go Less b c h = refl
      go Same Less c h = refl
      go Same Same c h = refl
      go Same More c h = cc
      go More b c h = cc

  -- ---- records of one sum and one key
  sum-of-both : (j r : ℕ) → same_sum_and_key t key sums j r ≡ true → get_or sums j 0 ≡ get_or sums r 0
  unfolding same_sum_and_key
  sum-of-both j r e = eqb-true (get_or sums j 0) (get_or sums r 0) (both_left (eqb (get_or sums j 0) (get_or sums r 0)) (same_key t key j r) e)

  key-of-both : (j r : ℕ) → same_sum_and_key t key sums j r ≡ true → same_key t key j r ≡ true
  unfolding same_sum_and_key
  key-of-both j r e = both_right (eqb (get_or sums j 0) (get_or sums r 0)) (same_key t key j r) e

  both-are : (j r : ℕ) → get_or sums j 0 ≡ get_or sums r 0 → same_key t key j r ≡ true → same_sum_and_key t key sums j r ≡ true
  unfolding same_sum_and_key
  both-are j r e f = rw (eq-eqb (get_or sums j 0) (get_or sums r 0) e) f

  one-sum : (j r : ℕ) → get_or sums j 0 ≡ get_or sums r 0 → number_order (get_or sums j 0) (get_or sums r 0) ≡ Same
  unfolding number_order
  one-sum j r e = rw e (lists-same (get_or sums r 0 ∷ []))

  sum-is-one : (p r : ℕ) → number_order (get_or sums p 0) (get_or sums r 0) ≡ Same → get_or sums p 0 ≡ get_or sums r 0
  unfolding number_order
  sum-is-one p r e =
      let l : get_or sums p 0 ∷ [] ≡ get_or sums r 0 ∷ [] = same_lists (get_or sums p 0 ∷ []) (get_or sums r 0 ∷ []) e in
      cc

  first-forward : (j r : ℕ) → j < r → same_sum_and_key t key sums j r ≡ true → precedes t key sums j r ≡ true
  unfolding precedes record_order may_precede number_order
  first-forward j r g e =
      ap may_precede (then_next _ _ (one-sum j r (sum-of-both j r e)) ∙ then_next _ _ (same-key-order t key j r (key-of-both j r e)) ∙ by_less j r [] [] g)

  all-between : (j p r : ℕ) → same_sum_and_key t key sums j r ≡ true → precedes t key sums j p ≡ true → precedes t key sums p r ≡ true → same_sum_and_key t key sums p r ≡ true
  all-between j p r e u v =
      let s : sum_then_key j r ≡ Same = same-both _ _ (one-sum j r (sum-of-both j r e)) (same-key-order t key j r (key-of-both j r e)) in
      let w : may_precede (sum_then_key r p) ≡ true = ap may_precede (sym (sum-then-key.same j r p s)) ∙ without-number j p u in
      let z : sum_then_key p r ≡ Same = each_way sum_then_key sum-then-key p r (without-number p r v) w in
      both-are p r (sum-is-one p r (both-same _ _ z).0) (order-same-key t key j p r (both-same _ _ z).1 (key-of-both j r e))

  side_by_side : (n : ℕ) → SideBySide (same_sum_and_key t key sums) (precedes t key sums) n
  side_by_side n = record {
    anti = precedes-anti t key sums;
    turned = λ p q e. both-are q p (sym (sum-of-both p q e)) (sym (same-key-sym t key p q) ∙ key-of-both p q e);
    forward = λ j r g h e. first-forward j r g e;
    between = λ j p r g k h e u v. all-between j p r e u v;
  }

  -- ---- the rule: a record repeats an earlier one exactly if some earlier one has its key
  repeats-if : (j r : ℕ) → j < r → same_key t key j r ≡ true → repeats t key r ≡ true
  repeats-if j r g e = go (repeats t key r) refl
    where
      go : (b : Bool) → repeats t key r ≡ b → b ≡ true
      go true f = refl
      go false f = absurd (true≢false (sym e ∙ repeats-none t key r f j g))

  repeats-only : (r : ℕ) → repeats t key r ≡ true → (j : ℕ) × ((j < r) × (same_key t key j r ≡ true))
  unfolding repeats earliest
  repeats-only r e =
      let l : 0 < earliest t key r = ltb-true 0 (earliest t key r) e in
      let f : First (λ (x : ℕ). same_key t key x r) r 0 (earliest t key r - 1) = first_found (λ (x : ℕ). same_key t key x r) r (earliest t key r - 1) (omega arith) in
      (earliest t key r - 1, (omega (arith, f.inside), f.here))

  -- and where records of one key have one sum, the earlier one has both
  module _ (n : ℕ) (one : (j r : ℕ) → j < n → r < n → same_key t key j r ≡ true → get_or sums j 0 ≡ get_or sums r 0) where
    both-repeat : (r : ℕ) → r < n → repeats t key r ≡ true → (j : ℕ) × ((j < r) × (same_sum_and_key t key sums j r ≡ true))
    both-repeat r h e =
        let w : (j : ℕ) × ((j < r) × (same_key t key j r ≡ true)) = repeats-only r e in
        let l : w.0 < r = w.1.0 in
        (w.0, (l, both-are w.0 r (one w.0 r (omega arith) h w.1.1) w.1.1))

    pub least-repeat-first : first_that (repeats t key) n ≡ least_repeat (same_sum_and_key t key sums) (in_sum_order t key sums n)
    least-repeat-first =
        first-is-least (same_sum_and_key t key sums) (precedes t key sums) n (in_sum_order t key sums n) (side_by_side n) (in-sum-order-lists t key sums n) (repeats t key) (λ j r g e. repeats-if j r g (key-of-both j r e)) both-repeat

-- ---- the sums of keys: records of one key have one, where the key's first field is an ID
module _ (t : Table) (key : Key) (is_id : key.a_kind ≡ 1) where
  same-key-one-sum : (i j : ℕ) → same_key t key i j ≡ true → key_sum_of t key i ≡ key_sum_of t key j
  unfolding key_sum_of
  same-key-one-sum i j e = go (eqb key.b_kind 1) refl
    where
      go : (b : Bool) → eqb key.b_kind 1 ≡ b → cond b (sum_with (field_sum t key.a i) (field_sum t key.b i)) (field_sum t key.a i) ≡ cond b (sum_with (field_sum t key.a j) (field_sum t key.b j)) (field_sum t key.a j)
      go true f = rw (same-key-sum t key i j is_id e, same-second-sum t key i j (eqb-true key.b_kind 1 f) e)
      go false f = same-key-sum t key i j is_id e

  sums-one : (n j r : ℕ) → j < n → r < n → same_key t key j r ≡ true → get_or (key_sums t key n) j 0 ≡ get_or (key_sums t key n) r 0
  sums-one n j r g h e = list_at (key_sum_of t key) n j g ∙ same-key-one-sum j r e ∙ sym (list_at (key_sum_of t key) n r h)

-- ---- the answer, by what the walk found
module _ (t : Table) (key : Key) (first least : ℕ) (is : first ≡ least) where
  pub none-breaks : first ≡ 0 → record { «record» = 0; same = 0 } ≡ break_at t key least
  unfolding break_at earliest first_that first_from
  none-breaks e = rw (← is, e)

  pub one-breaks : (e : ℕ) → e ≡ earliest t key (first - 1) → record { «record» = first; same = e } ≡ break_at t key least
  unfolding break_at
  one-breaks e p = rw (p, is)

-- ---- how many records a table has is no matter for two of them
pub order-gives-rule : (s cells : List ℕ) (width n : ℕ) (key : Key) → key.a_kind ≡ 1 → (sums order : List ℕ) → sums ≡ key_sums (table s cells width 0) key n → order ≡ in_sum_order (table s cells width 0) key sums n → break_at (table s cells width 0) key (least_repeat (same_sum_and_key (table s cells width 0) key sums) order) ≡ key_rule (table s cells width n) key
unfolding break_at key_rule repeats earliest same_key same_field same_text text_of integer_in date_in
order-gives-rule s cells width n key is_id sums order e f =
    rw (f, e, ← (least-repeat-first (table s cells width 0) key (key_sums (table s cells width 0) key n) n (sums-one (table s cells width 0) key is_id n)))

-- ---- so what the lent lists say, once they are filled, is the rule's answer
module _ (s cells : List ℕ) (width n m : ℕ) (key : Key) (sums order scratch filled : List ℕ) where
  pub filled-gives-rule : (fit : Bool) (r : KeyBreak) → key.a_kind ≡ 1 → length order ≡ n → sums ≡ key_sums (table s cells width 0) key m → fit ≡ are_fit sums order scratch → fit ≡ true → filled ≡ order_by_sums (table s cells width 0) key sums order scratch → r ≡ break_at (table s cells width 0) key (least_repeat (same_sum_and_key (table s cells width 0) key sums) filled) → r ≡ key_rule (table s cells width n) key
  filled-gives-rule fit r is_id l a f e g h =
      let long : m ≡ n = sym (ap length a ∙ list_length (key_sum_of (table s cells width 0) key) m) ∙ (fit-lengths sums order scratch (sym f ∙ e)).1 ∙ l in
      let o : filled ≡ in_sum_order (table s cells width 0) key sums n = g ∙ (fit-by-sums sums order scratch (table s cells width 0) key (sym f ∙ e)).0 ∙ ap (in_sum_order (table s cells width 0) key sums) l in
      h ∙ order-gives-rule s cells width n key is_id sums filled (a ∙ ap (key_sums (table s cells width 0) key) long) o
