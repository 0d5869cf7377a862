-- What a planner may expect of the rule: it holds exactly if no two records have one key, and where it breaks it names
-- the first record that repeats a key and the first that has it. To have one key goes both ways.
-- Assumes nothing.
use Prim.Native.Nat.{ℕ, suc, ◌+◌, ◌-◌, ◌≤◌, ◌<◌}
use mathlib.Core.Path.{◌≡◌, refl, sym, ◌∙◌}
use mathlib.Core.Bool.{Bool, true, false}
use mathlib.Core.List.{List}
use native.Mathlib.Numerals.{add-one}
use native.Mathlib.Omega.{arith}
use borrow.Author.Tests.{lt-ltb, ltb-true, ltb-false, eq-eqb, eqb-true}
use lib.Dec.{eqb}
use Rattle.json_number.specs.Number.{same_sign}
use Rattle.json_number.specs.declared.Integer.{Integer}
use Rattle.json_number.specs.declared.Integer.TheVariants.{Is, Fraction, TooLarge}
use Rattle.std.specs.Prelude.{Some, None}
use Rattle.json_date.specs.Date.{Date}
use Rattle.json_same.specs.Same.{same_as}
use Rattle.json_same.specs.declared.Case.TheVariants.{Folded}
use Rattle.json_same.proofs.Laws.{same-sym}
use Rattle.rule_cells.specs.Cells.{Table, text_of, same_text, integer_in, date_in, first_from, first_that}
use Rattle.rule_key.specs.declared.Key.{Key}
use Rattle.rule_key.specs.Key.{same_integer, same_date, same_field, same_key, earliest, repeats, key_rule}
use Rattle.rule_key.proofs.Compare.{rule-is}
use Rattle.rule_cells.proofs.First.{First, first_found, found_first, first-none, none_first}

-- ---- One key, both ways
-- two tests of which each passes where the other does are one
pub both_ways : (a b : Bool) → (a ≡ true → b ≡ true) → (b ≡ true → a ≡ true) → a ≡ b
both_ways true b f g = sym (f refl)
both_ways false true f g = g refl
both_ways false false f g = refl

swap : (x y : ℕ) → eqb x y ≡ eqb y x
swap x y = both_ways (eqb x y) (eqb y x) (λ e. eq-eqb y x (sym (eqb-true x y e))) (λ e. eq-eqb x y (sym (eqb-true y x e)))

swap-sign : (m n : Bool) → same_sign m n ≡ same_sign n m
swap-sign true true = refl
swap-sign true false = refl
swap-sign false true = refl
swap-sign false false = refl

pub same-integer-sym : (a b : Integer) → same_integer a b ≡ same_integer b a
unfolding same_integer
same-integer-sym (Is m x) (Is n y) = cc (swap x y, swap-sign m n)
same-integer-sym (Is m x) Fraction = refl
same-integer-sym (Is m x) TooLarge = refl
same-integer-sym Fraction (Is n y) = refl
same-integer-sym Fraction Fraction = refl
same-integer-sym Fraction TooLarge = refl
same-integer-sym TooLarge (Is n y) = refl
same-integer-sym TooLarge Fraction = refl
same-integer-sym TooLarge TooLarge = refl

pub same-date-sym : (a b : Date) → same_date a b ≡ same_date b a
unfolding same_date
same-date-sym (Some a) (Some b) = cc (swap a.year b.year, swap a.month b.month, swap a.day b.day)
same-date-sym (Some a) None = refl
same-date-sym None (Some b) = refl
same-date-sym None None = refl

same-text-sym : (xs ys : List ℕ) → same_as Folded xs ys ≡ same_as Folded ys xs
same-text-sym xs ys = both_ways (same_as Folded xs ys) (same_as Folded ys xs) (same-sym Folded xs ys) (same-sym Folded ys xs)

module _ (t : Table) where
  pub same-field-sym : (kind k i j : ℕ) → same_field t kind k i j ≡ same_field t kind k j i
  unfolding same_field same_text
  same-field-sym kind k i j =
      cc (same-text-sym (text_of t i k) (text_of t j k), same-integer-sym (integer_in t i k) (integer_in t j k), same-date-sym (date_in t i k) (date_in t j k))

  pub same-key-sym : (key : Key) (i j : ℕ) → same_key t key i j ≡ same_key t key j i
  unfolding same_key
  same-key-sym key i j =
      cc (same-field-sym key.a_kind key.a i j, same-field-sym key.b_kind key.b i j, same-field-sym key.c_kind key.c i j)

-- ---- Where the rule holds
-- no two records have one key
unfoldable pub Distinct : Table → Key → Type 0
Distinct t key = (i j : ℕ) → i < j → j < t.records → same_key t key i j ≡ false

module _ (t : Table) (key : Key) where
  -- a record repeats none exactly if it has no earlier one's key
  pub repeats-none : (i : ℕ) → repeats t key i ≡ false → (j : ℕ) → j < i → same_key t key j i ≡ false
  unfolding repeats earliest
  repeats-none i e =
      let z : earliest t key i ≤ 0 = ltb-false 0 (earliest t key i) e in
      first-none (λ (x : ℕ). same_key t key x i) i (omega arith)

  pub none-repeats : (i : ℕ) → ((j : ℕ) → j < i → same_key t key j i ≡ false) → repeats t key i ≡ false
  unfolding repeats earliest
  none-repeats i h = rw (none_first (λ (x : ℕ). same_key t key x i) i h)

  pub holds-distinct : (key_rule t key).«record» ≡ 0 → Distinct t key
  unfolding key_rule Distinct
  holds-distinct e i j l u = repeats-none j (first-none (repeats t key) t.records e j u) i l

  pub distinct-holds : Distinct t key → (key_rule t key).«record» ≡ 0
  unfolding key_rule Distinct
  distinct-holds h = none_first (repeats t key) t.records (λ j u. none-repeats j (λ i l. h i j l u))

-- and then it names no other record either
none-before-first : (t : Table) (key : Key) (r : ℕ) → r ≡ 0 → earliest t key (r - 1) ≡ 0
unfolding earliest first_that first_from
none-before-first t key r e = rw e

pub holds-names-none : (t : Table) (key : Key) → (key_rule t key).«record» ≡ 0 → (key_rule t key).same ≡ 0
unfolding key_rule
holds-names-none t key e = none-before-first t key (first_that (repeats t key) t.records) e

-- ---- Where it breaks: record i has the key of record e, both counted from 0
pub record Repeat (t : Table) (key : Key) (i e : ℕ) : Type 0 where
  pub inside : i < t.records
  pub before : e < i
  pub same : same_key t key e i ≡ true
  -- no record before e has that key
  pub earliest-one : (j : ℕ) → j < e → same_key t key j i ≡ false
  -- and no record before i has an earlier one's
  pub first_one : (r : ℕ) → r < i → (j : ℕ) → j < r → same_key t key j r ≡ false

module _ (t : Table) (key : Key) where
  repeat-found : (i e : ℕ) → First (repeats t key) t.records 0 i → earliest t key i ≡ suc e → Repeat t key i e
  unfolding earliest
  repeat-found i e f q =
      let g : First (λ (x : ℕ). same_key t key x i) i 0 e = first_found (λ (x : ℕ). same_key t key x i) i e q in
      record {
        inside = omega (arith, f.inside);
        before = omega (arith, g.inside);
        same = g.here;
        earliest-one = λ j l. g.before j (omega arith) l;
        first_one = λ r l. repeats-none t key r (f.before r (omega arith) l);
      }

  found-earliest : (i e : ℕ) → Repeat t key i e → earliest t key i ≡ suc e
  unfolding earliest
  found-earliest i e f =
      found_first (λ (x : ℕ). same_key t key x i) i e (record {
        from = omega arith;
        inside = omega (arith, f.before);
        here = f.same;
        before = λ j o l. f.earliest-one j l;
      })

  -- the answer names the first that has an earlier one's key, and the earliest that has it
  pub breaks-repeat : (i : ℕ) → (key_rule t key).«record» ≡ i + 1 → (e : ℕ) × (((key_rule t key).same ≡ e + 1) × Repeat t key i e)
  unfolding key_rule repeats
  breaks-repeat i h =
      let p : first_that (repeats t key) t.records ≡ suc i = h ∙ add-one i in
      let f : First (repeats t key) t.records 0 i = first_found (repeats t key) t.records i p in
      let l : 0 < earliest t key i = ltb-true 0 (earliest t key i) f.here in
      let z : suc i - 1 ≡ i = omega arith in
      (earliest t key i - 1, (rw (p, z) (omega arith), repeat-found i (earliest t key i - 1) f (omega arith)))

  -- and where there are such two, it does name them
  pub repeat-breaks : (i e : ℕ) → Repeat t key i e → key_rule t key ≡ record { «record» = i + 1; same = e + 1 }
  unfolding repeats
  repeat-breaks i e f =
      let z : (i + 1) - 1 ≡ i = omega arith in
      let q : earliest t key i ≡ suc e = found-earliest i e f in
      let g : First (repeats t key) t.records 0 i = record {
        from = omega arith;
        inside = omega (arith, f.inside);
        here = rw q (lt-ltb 0 (suc e) (omega arith));
        before = λ r o l. none-repeats t key r (f.first_one r l);
      } in
      rule-is t key (i + 1) (e + 1) (found_first (repeats t key) t.records i g ∙ sym (add-one i)) (rw z (q ∙ sym (add-one e)))
