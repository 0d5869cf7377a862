-- Where records come in groups by the key's second field and none has the key of another of its group, no two records
-- have one key, and the rule holds. And one turn of the walk over the groups.
-- Assumes nothing.
use Prim.Native.Nat.{ℕ, zero, suc, ◌+◌, ◌-◌, ◌≤◌, ◌<◌}
use mathlib.Core.Path.{◌≡◌, refl, sym, ap, ◌∙◌}
use mathlib.Core.Bool.{Bool, true, false, ◌&&◌}
use mathlib.Core.List.{List}
use native.Mathlib.Decide.{ℕ_discrete}
use native.Mathlib.Nat.{sub-zero}
use native.Mathlib.Omega.{arith}
use borrow.Author.Tests.{ltb-true, ltb-false, le-leb, lt-leb, eq-eqb, ne_eqb}
use lib.Dec.{ltb, leb, eqb}
use Rattle.json_bytes.proofs.Laws.{both_left, both_right}
use Rattle.text_order.specs.Order.{order_of}
use Rattle.text_order.specs.declared.Compared.{Compared}
use Rattle.text_order.specs.declared.Compared.TheVariants.{Less, Same, More}
use Rattle.text_order.proofs.Laws.{same_lists, less-trans}
use Rattle.rule_cells.specs.Cells.{Table, table, text_of, same_text, integer_in, date_in}
use Rattle.rule_key.specs.declared.Key.{Key}
use Rattle.rule_key.specs.Key.{same_field, same_key, key_rule}
use Rattle.rule_key.proofs.Laws.{Distinct}
use Rattle.key_order.specs.Order.{field_parts, field_order, key_order}
use Rattle.key_order.proofs.Compared.{both-same}
use Rattle.key_order.proofs.Laws.{same-key-order}
use Rattle.ordered_key.specs.Grouped.{apart, grouped_from, grouped}
use Rattle.ordered_key.proofs.None.{NoneLeft, left-none, distinct-gives-rule}

-- ---- one record of a group beside those before it
module _ (same : ℕ → ℕ → Bool) (from i : ℕ) where
  abbrev pub ApartLeft : ℕ → Type 0
  ApartLeft j = NoneLeft (apart same from i) (λ (x : ℕ). same x i) i j

  pub long-group : 8 < i - from → false ≡ apart same from i
  unfolding apart
  long-group l = rw (lt-leb (i - from) 8 l)

  pub apart-starts : i - from ≤ 8 → ApartLeft from
  unfolding apart
  apart-starts l = rw (le-leb (i - from) 8 l)

  pub apart_none : apart same from i ≡ true → (p : ℕ) → from ≤ p → p < i → same p i ≡ false
  unfolding apart
  apart_none e p l u =
      left-none (λ (x : ℕ). same x i) i from p (sym (both_right (leb (i - from) 8) _ e)) l u

-- ---- the walk: what is left of it at record i, whose group starts at `from`
module _ (order : ℕ → ℕ → Compared) (same : ℕ → ℕ → Bool) (whole : Bool) (n : ℕ) where
  abbrev pub GroupsLeft : ℕ → ℕ → Type 0
  GroupsLeft from i = whole ≡ grouped_from order same (n - 1 - i) from i

  module _ (from i j : ℕ) (next : j ≡ i + 1) (w : GroupsLeft from i) where
    module _ (l : j < n) where
      left : n - 1 - i ≡ suc (n - 1 - (i + 1))
      left = omega arith

      pub group-starts : order i j ≡ Less → GroupsLeft j j
      unfolding grouped_from
      group-starts e = let here = rw next at e in rw next (w ∙ rw (left, here, grouped_from))

      pub group-goes-on : order i j ≡ Same → apart same from j ≡ true → GroupsLeft from j
      unfolding grouped_from
      group-goes-on e f = let here = rw next at e in let alone = rw next at f in rw next (w ∙ rw (left, here, grouped_from, alone))

      pub group-repeats : order i j ≡ Same → apart same from j ≡ false → false ≡ whole
      unfolding grouped_from
      group-repeats e f = let here = rw next at e in let alone = rw next at f in sym (w ∙ rw (left, here, grouped_from, alone))

      pub group-falls : order i j ≡ More → false ≡ whole
      unfolding grouped_from
      group-falls e = let here = rw next at e in sym (w ∙ rw (left, here, grouped_from))

    pub groups-end : n ≤ j → true ≡ whole
    unfolding grouped_from
    groups-end l = let z : n - 1 - i ≡ 0 = omega arith in sym (w ∙ rw (z, grouped_from))

-- ---- records that are ordered by a list each, and of which two that are the same have one list
module _ (parts : ℕ → List ℕ) (same : ℕ → ℕ → Bool) (one : (p q : ℕ) → same p q ≡ true → order_of (parts p) (parts q) ≡ Same) where
  abbrev order : ℕ → ℕ → Compared
  order p q = order_of (parts p) (parts q)

  -- up to record i, whose group starts at `from`
  record Parted (from i : ℕ) : Type 0 where
    -- no two are the same
    pub differ : (p q : ℕ) → p < q → q ≤ i → same p q ≡ false
    pub before : (p : ℕ) → p < from → order p i ≡ Less
    pub in_group : (p : ℕ) → from ≤ p → p ≤ i → parts p ≡ parts i

  less-differ : (p q : ℕ) → order p q ≡ Less → same p q ≡ false
  less-differ p q e = go (same p q) refl
    where
      go : (b : Bool) → same p q ≡ b → b ≡ false
      go false f = refl
      go true f = let n : Less ≡ Same = sym e ∙ one p q f in cc

  -- ---- the next record
  module _ (from i : ℕ) (d : Parted from i) where
    next-differ : ((p : ℕ) → p ≤ i → same p (i + 1) ≡ false) → (p q : ℕ) → p < q → q ≤ i + 1 → same p q ≡ false
    next-differ h p q l u = go (ℕ_discrete q (i + 1))
      where
        go : Dec (q ≡ i + 1) → same p q ≡ false
        go (yes z) = rw z (h p (omega arith))
        go (no z) = d.differ p q l (omega arith)

    all-less : order i (i + 1) ≡ Less → (p : ℕ) → p ≤ i → order p (i + 1) ≡ Less
    all-less e p l = go (ltb p from) refl
      where
        go : (b : Bool) → ltb p from ≡ b → order p (i + 1) ≡ Less
        go true f = less-trans (parts p) (parts i) (parts (i + 1)) (d.before p (ltb-true p from f)) e
        go false f = rw (d.in_group p (ltb-false p from f) l) e

    parted-less : order i (i + 1) ≡ Less → Parted (i + 1) (i + 1)
    parted-less e = record {
      differ = next-differ (λ p l. less-differ p (i + 1) (all-less e p l));
      before = λ p l. all-less e p (omega arith);
      in_group = λ p l u. ap parts (omega arith);
    }

    parted-same : order i (i + 1) ≡ Same → ((p : ℕ) → from ≤ p → p < i + 1 → same p (i + 1) ≡ false) → Parted from (i + 1)
    parted-same e h = record { differ = next-differ differs; before = before; in_group = level }
      where
        z : parts i ≡ parts (i + 1)
        z = same_lists (parts i) (parts (i + 1)) e

        before : (p : ℕ) → p < from → order p (i + 1) ≡ Less
        before p l = rw (← z) (d.before p l)

        level : (p : ℕ) → from ≤ p → p ≤ i + 1 → parts p ≡ parts (i + 1)
        level p l u = go (ℕ_discrete p (i + 1))
          where
            go : Dec (p ≡ i + 1) → parts p ≡ parts (i + 1)
            go (yes y) = ap parts y
            go (no y) = d.in_group p l (omega arith) ∙ z

        differs : (p : ℕ) → p ≤ i → same p (i + 1) ≡ false
        differs p l = go (ltb p from) refl
          where
            go : (b : Bool) → ltb p from ≡ b → same p (i + 1) ≡ false
            go true f = less-differ p (i + 1) (before p (ltb-true p from f))
            go false f = h p (ltb-false p from f) (omega arith)

  -- ---- so what the walk passes has no two that are the same
  walked : (n from i : ℕ) → Parted from i → grouped_from order same n from i ≡ true → (p q : ℕ) → p < q → q ≤ i + n → same p q ≡ false
  unfolding grouped_from
  walked zero from i d e p q l u = d.differ p q l (omega arith)
  walked (suc n) from i d e p q l u = go (walked n) (order i (i + 1)) refl
    where
      go : ((from i : ℕ) → Parted from i → grouped_from order same n from i ≡ true → (p q : ℕ) → p < q → q ≤ i + n → same p q ≡ false) → (a : Compared) → order i (i + 1) ≡ a → same p q ≡ false
      go rest Less f = rest (i + 1) (i + 1) (parted-less from i d f) (rw (f, grouped_from) at e) p q l (omega arith)
      go rest Same f =
          let b : (apart same from (i + 1) && grouped_from order same n from (i + 1)) ≡ true = rw (f, grouped_from) at e in
          rest from (i + 1) (parted-same from i d f (apart_none same from (i + 1) (both_left _ _ b))) (both_right (apart same from (i + 1)) _ b) p q l (omega arith)
      go rest More f = let b : false ≡ true = rw (f, grouped_from) at e in cc

  starts : Parted 0 0
  starts = record {
    differ = λ p q l u. absurd (omega arith);
    before = λ p l. absurd (omega arith);
    in_group = λ p l u. ap parts (omega arith);
  }

  pub grouped-differ : (n : ℕ) → grouped_from order same (n - 1) 0 0 ≡ true → (p q : ℕ) → p < q → q < n → same p q ≡ false
  grouped-differ n e p q l u = walked (n - 1) 0 0 starts e p q l (omega arith)

-- ---- records by their keys
module _ (t : Table) (key : Key) where
  abbrev pub KeysLeft : ℕ → ℕ → ℕ → Type 0
  KeysLeft n from i = GroupsLeft (field_order t key.b_kind key.b) (same_key t key) (grouped t key n) n from i

  pub no_second : (n : ℕ) → (key.b_kind ≡ 1 → ⊥) → false ≡ grouped t key n
  unfolding grouped
  no_second n e = rw (ne_eqb key.b_kind 1 e)

  pub walk-starts : (n : ℕ) → key.b_kind ≡ 1 → KeysLeft n 0 0
  unfolding grouped
  walk-starts n e = rw (eq-eqb key.b_kind 1 e, sub-zero)

  -- those of one key have one second field
  one-second : (i j : ℕ) → same_key t key i j ≡ true → field_order t key.b_kind key.b i j ≡ Same
  unfolding key_order
  one-second i j e = (both-same _ _ (both-same _ _ (same-key-order t key i j e)).1).0

  pub grouped-distinct : grouped t key t.records ≡ true → Distinct t key
  unfolding Distinct grouped field_order
  grouped-distinct e =
      grouped-differ (field_parts t key.b_kind key.b) (same_key t key) one-second t.records (both_right (eqb key.b_kind 1) _ e)

-- ---- how many records a table has is no matter for two of them
pub grouped-gives-rule : (s cells : List ℕ) (width n : ℕ) (key : Key) (r : Bool) → r ≡ grouped (table s cells width 0) key n → r ≡ true → record { «record» = 0; same = 0 } ≡ key_rule (table s cells width n) key
unfolding grouped same_key same_field same_text field_order field_parts text_of integer_in date_in
grouped-gives-rule s cells width n key r is e =
    sym (distinct-gives-rule (table s cells width n) key (grouped-distinct (table s cells width n) key (sym is ∙ e)))
