-- What is looked up in the order of keys is found exactly if some record has it.
-- Assumes nothing.
use Prim.Native.Nat.{ℕ, zero, suc, ◌<◌}
use mathlib.Core.Path.{◌≡◌, refl, sym, ap, ◌∙◌}
use mathlib.Core.Bool.{Bool, true, false, cond, not, true≢false}
use mathlib.Core.List.{List, [], ◌∷◌, map}
use native.Mathlib.Omega.{arith}
use borrow.Author.Tests.{lt-ltb, ltb-true, ltb-false}
use lib.ListN.{length, get_or}
use lib.Dec.{ltb, eqb}
use Rattle.json_bytes.proofs.Laws.{both_left, both_right}
use Rattle.json_chars.specs.Chars.{chars_at}
use Rattle.json_same.specs.Same.{cased_as, same_as}
use Rattle.json_same.specs.declared.Case.TheVariants.{Folded}
use Rattle.json_same.proofs.Laws.{same-cased, cased-same}
use Rattle.key_sum.specs.Sum.{sum_of, key_sum}
use Rattle.text_order.specs.Order.{order_of, turned, may_precede}
use Rattle.text_order.specs.declared.Compared.{Compared}
use Rattle.text_order.specs.declared.Compared.TheVariants.{Less, Same, More}
use Rattle.text_order.proofs.Laws.{by_less, by-more, by-rest, same_lists, lists-same}
use Rattle.sorted_numbers.proofs.Members.{Stands}
use Rattle.number_search.specs.Search.{front_of, searched}
use Rattle.number_search.proofs.Laws.{Falls, front-before, front_at, search-ordered}
use Rattle.rule_cells.specs.Cells.{Table, text_of, first_that}
use Rattle.rule_cells.proofs.First.{First, first_found, first-none}
use Rattle.key_order.specs.Order.{and_then, field_parts, field_order, key_order, number_order, record_order, precedes, field_sum, sums_of, in_key_order}
use Rattle.key_order.proofs.Compared.{Comparison, by_parts, by_both, both-same, same-both, orders, each_way}
use Rattle.key_order.proofs.Laws.{sum-at}
use Rattle.key_order.proofs.Listed.{Listed, in-key-order-lists}
use Rattle.key_lookup.specs.declared.Lookup.{Lookup}
use Rattle.key_lookup.specs.Lookup.{key_of, has_texts, first_parts, second_parts, second_order, stands_before, key_place, is_found}

-- ---- records in order, a test that those in front pass, and what a record may have
pub record Reachable (le : ℕ → ℕ → Bool) (before has : ℕ → Bool) (n : ℕ) : Type 0 where
  -- what stands before a record that passes the test does too
  pub falls : (x y : ℕ) → x < n → y < n → le x y ≡ true → before y ≡ true → before x ≡ true
  -- a record that has it does not pass
  pub stops : (q : ℕ) → q < n → has q ≡ true → before q ≡ false
  -- and one that does not pass and stands before one that has it, has it too
  pub reaches : (x q : ℕ) → x < n → q < n → le x q ≡ true → before x ≡ false → has q ≡ true → has x ≡ true

module _ (le : ℕ → ℕ → Bool) (before has : ℕ → Bool) (n : ℕ) (l : List ℕ) (k : Listed le n l) (r : Reachable le before has n) where
  all-fall : Falls before l
  all-fall i j g h e =
      r.falls (get_or l i 0) (get_or l j 0) (k.inside i (omega (arith, k.long))) (k.inside j (omega (arith, k.long))) (k.rises i j g (omega (arith, k.long))) e

  -- the record at the place has it, where some record does
  found-there : (q : ℕ) → q < n → has q ≡ true → (searched before l < length l) × (has (get_or l (searched before l) 0) ≡ true)
  found-there q h e = rw (search-ordered before l all-fall) (go (k.has q h))
    where
      go : Stands q l → (front_of before l < length l) × (has (get_or l (front_of before l) 0) ≡ true)
      go s = at (ltb s.place (front_of before l)) refl (ltb (front_of before l) s.place) refl
        where
          at : (t : Bool) → ltb s.place (front_of before l) ≡ t → (v : Bool) → ltb (front_of before l) s.place ≡ v → (front_of before l < length l) × (has (get_or l (front_of before l) 0) ≡ true)
          at true f v g =
              absurd (true≢false (sym (front-before before l s.place (ltb-true _ _ f)) ∙ rw s.is (r.stops q h e)))
          at false f true g =
              let u : front_of before l < s.place = ltb-true _ _ g in
              let w : front_of before l < length l = omega (arith, s.inside) in
              (w, r.reaches (get_or l (front_of before l) 0) q (k.inside (front_of before l) (omega (arith, k.long))) h (rw s.is at (k.rises (front_of before l) s.place u (omega (arith, s.inside, k.long)))) (front_at before l w) e)
          at false f false g =
              let z : front_of before l ≡ s.place = omega (arith, ltb-false s.place (front_of before l) f, ltb-false (front_of before l) s.place g) in
              (omega (arith, s.inside), rw (z, s.is) e)

-- ---- two lists by their first numbers and then the rest
first_then : (x y : ℕ) (xs ys : List ℕ) → and_then (number_order x y) (order_of xs ys) ≡ order_of (x ∷ xs) (y ∷ ys)
unfolding number_order order_of and_then
first_then x y xs ys = go (ltb x y) refl (ltb y x) refl
  where
    go : (t : Bool) → ltb x y ≡ t → (v : Bool) → ltb y x ≡ v → and_then (order_of (x ∷ []) (y ∷ [])) (order_of xs ys) ≡ order_of (x ∷ xs) (y ∷ ys)
    go true e v f = rw (by_less x y [] [] (ltb-true x y e), by_less x y xs ys (ltb-true x y e))
    go false e true f = rw (by-more x y [] [] (ltb-true y x f), by-more x y xs ys (ltb-true y x f))
    go false e false f =
        let z : x ≡ y = omega (arith, ltb-false x y e, ltb-false y x f) in
        rw (by-rest x y [] [] z, by-rest x y xs ys z)

-- what may stand before by more comparisons may by the first of them
by_three : (a b c d e : Compared) → may_precede (and_then a (and_then (and_then b (and_then c d)) e)) ≡ true → may_precede (and_then (and_then a b) c) ≡ true
unfolding and_then may_precede
by_three Less b c d e h = refl
by_three Same Less c d e h = refl
by_three Same Same Less d e h = refl
by_three Same Same Same d e h = refl
by_three Same Same More d e h = cc
by_three Same More c d e h = cc
by_three More b c d e h = cc

by_two : (a b c d e : Compared) → may_precede (and_then a (and_then (and_then b (and_then c d)) e)) ≡ true → may_precede (and_then (and_then a b) Same) ≡ true
unfolding and_then may_precede
by_two Less b c d e h = refl
by_two Same Less c d e h = refl
by_two Same Same c d e h = refl
by_two Same More c d e h = cc
by_two More b c d e h = cc

-- ---- the records, and before them, as number 0, what is looked up
module _ (u : Table) (l : Lookup) (n : ℕ) (text : List ℕ) where
  abbrev sums : List ℕ
  sums = sums_of u l.m n

  abbrev sum : ℕ
  sum = sum_of (map (cased_as Folded) text)

  first : ℕ → List ℕ
  first zero = first_parts sum text
  first (suc q) = first_parts (get_or sums q 0) (text_of u q l.m)

  second : ℕ → List ℕ
  second zero = second_parts l (chars_at u.bytes l.also)
  second (suc q) = second_parts l (text_of u q l.k)

  abbrev beside : ℕ → ℕ → Compared
  beside p q = and_then (order_of (first p) (first q)) (order_of (second p) (second q))

  comparison : Comparison beside
  comparison = by_both _ (by_parts first) _ (by_parts second)

  before-is : (q : ℕ) (b : Bool) → stands_before u l sums sum text q ≡ b → may_precede (beside 0 (suc q)) ≡ not b
  unfolding stands_before second_order first second
  before-is q b e = go (may_precede (beside 0 (suc q))) e
    where
      go : (t : Bool) → not t ≡ b → t ≡ not b
      go true f = rw (← f)
      go false f = rw (← f)

  -- a record that has it is the same as it
  has_first : (q : ℕ) → q < n → same_as Folded text (text_of u q l.m) ≡ true → first 0 ≡ first (suc q)
  unfolding field_sum key_sum text_of first
  has_first q h e =
      let f : map (cased_as Folded) text ≡ map (cased_as Folded) (text_of u q l.m) = same-cased Folded text (text_of u q l.m) e in
      rw (sum-at u l.m n q h, f)

  has-second : (q : ℕ) → cond (eqb l.kind 1) (same_as Folded (chars_at u.bytes l.also) (text_of u q l.k)) true ≡ true → second 0 ≡ second (suc q)
  unfolding second_parts second
  has-second q e = go (eqb l.kind 1) e
    where
      go : (t : Bool) → cond t (same_as Folded (chars_at u.bytes l.also) (text_of u q l.k)) true ≡ true → cond t (map (cased_as Folded) (chars_at u.bytes l.also)) [] ≡ cond t (map (cased_as Folded) (text_of u q l.k)) []
      go true f = same-cased Folded (chars_at u.bytes l.also) (text_of u q l.k) f
      go false f = refl

  has_same : (q : ℕ) → q < n → has_texts u l text q ≡ true → beside 0 (suc q) ≡ Same
  unfolding has_texts
  has_same q h e =
      same-both _ _ (rw (has_first q h (both_left (same_as Folded text (text_of u q l.m)) _ e)) (lists-same (first (suc q))))
      (rw (has-second q (both_right (same_as Folded text (text_of u q l.m)) _ e)) (lists-same (second (suc q))))

  -- and one that is the same as it has it
  second-has : (q : ℕ) → second 0 ≡ second (suc q) → cond (eqb l.kind 1) (same_as Folded (chars_at u.bytes l.also) (text_of u q l.k)) true ≡ true
  unfolding second_parts second
  second-has q e = go (eqb l.kind 1) e
    where
      go : (t : Bool) → cond t (map (cased_as Folded) (chars_at u.bytes l.also)) [] ≡ cond t (map (cased_as Folded) (text_of u q l.k)) [] → cond t (same_as Folded (chars_at u.bytes l.also) (text_of u q l.k)) true ≡ true
      go true f = cased-same Folded (chars_at u.bytes l.also) (text_of u q l.k) f
      go false f = refl

  same-has : (q : ℕ) → beside 0 (suc q) ≡ Same → has_texts u l text q ≡ true
  unfolding has_texts first
  same-has q e =
      let f : same_as Folded text (text_of u q l.m) ≡ true = cased-same Folded text (text_of u q l.m) (ap rest (same_lists (first 0) (first (suc q)) (both-same _ _ e).0)) in
      rw f (second-has q (same_lists (second 0) (second (suc q)) (both-same _ _ e).1))
    where
      rest : List ℕ → List ℕ
      rest [] = []
      rest (x ∷ xs) = xs

  -- a record that may stand before another may by these alone
  records-rise : (x y : ℕ) → precedes u (key_of l) sums x y ≡ true → may_precede (beside (suc x) (suc y)) ≡ true
  unfolding precedes record_order key_order field_order field_parts second_parts first second
  records-rise x y e =
      rw (← first_then (get_or sums x 0) (get_or sums y 0) (map (cased_as Folded) (text_of u x l.m)) (map (cased_as Folded) (text_of u y l.m)))
      (go (eqb l.kind 1) _ _ _ _ e)
    where
      go : (t : Bool) (i j : List ℕ) (d v : Compared) → may_precede (and_then (number_order (get_or sums x 0) (get_or sums y 0)) (and_then (and_then (order_of (map (cased_as Folded) (text_of u x l.m)) (map (cased_as Folded) (text_of u y l.m))) (and_then (order_of (cond t (map (cased_as Folded) (text_of u x l.k)) i) (cond t (map (cased_as Folded) (text_of u y l.k)) j)) d)) v)) ≡ true → may_precede (and_then (and_then (number_order (get_or sums x 0) (get_or sums y 0)) (order_of (map (cased_as Folded) (text_of u x l.m)) (map (cased_as Folded) (text_of u y l.m)))) (order_of (cond t (map (cased_as Folded) (text_of u x l.k)) []) (cond t (map (cased_as Folded) (text_of u y l.k)) []))) ≡ true
      go true i j d v h = by_three _ _ _ _ _ h
      go false i j d v h = rw (lists-same []) (by_two _ _ _ _ _ h)

  reachable : Reachable (precedes u (key_of l) sums) (stands_before u l sums sum text) (has_texts u l text) n
  unfolding may_precede turned
  reachable = record { falls = falls; stops = stops; reaches = reaches }
    where
      falls : (x y : ℕ) → x < n → y < n → precedes u (key_of l) sums x y ≡ true → stands_before u l sums sum text y ≡ true → stands_before u l sums sum text x ≡ true
      falls x y g h e f = go (stands_before u l sums sum text x) refl
        where
          go : (b : Bool) → stands_before u l sums sum text x ≡ b → b ≡ true
          go true d = refl
          go false d = absurd (true≢false (sym ((orders beside comparison).trans 0 (suc x) (suc y) (before-is x false d) (records-rise x y e)) ∙ before-is y true f))

      stops : (q : ℕ) → q < n → has_texts u l text q ≡ true → stands_before u l sums sum text q ≡ false
      stops q h e = go (stands_before u l sums sum text q) refl
        where
          go : (b : Bool) → stands_before u l sums sum text q ≡ b → b ≡ false
          go true d = absurd (true≢false (sym (ap may_precede (has_same q h e)) ∙ before-is q true d))
          go false d = refl

      reaches : (x q : ℕ) → x < n → q < n → precedes u (key_of l) sums x q ≡ true → stands_before u l sums sum text x ≡ false → has_texts u l text q ≡ true → has_texts u l text x ≡ true
      reaches x q g h e f d =
          let s : beside 0 (suc q) ≡ Same = has_same q h d in
          let b : may_precede (beside (suc q) (suc x)) ≡ true = ap may_precede (sym (comparison.same 0 (suc q) (suc x) s)) ∙ before-is x false f in
          let z : beside (suc q) (suc x) ≡ Same = each_way beside comparison (suc q) (suc x) b (records-rise x q e) in
          same-has x (comparison.same 0 (suc q) (suc x) s ∙ z)

  -- ---- so it is found exactly if some record has it
  found-if : (q : ℕ) → q < n → has_texts u l text q ≡ true → is_found u l sums (in_key_order u (key_of l) n) text ≡ true
  unfolding is_found key_place
  found-if q h e =
      let f : (searched (stands_before u l sums sum text) (in_key_order u (key_of l) n) < length (in_key_order u (key_of l) n)) × (has_texts u l text (get_or (in_key_order u (key_of l) n) (searched (stands_before u l sums sum text) (in_key_order u (key_of l) n)) 0) ≡ true) =
      found-there (precedes u (key_of l) sums) (stands_before u l sums sum text) (has_texts u l text) n (in_key_order u (key_of l) n) (in-key-order-lists u (key_of l) n) reachable q h e
      in
      rw (lt-ltb _ _ f.0) f.1

  only_if : is_found u l sums (in_key_order u (key_of l) n) text ≡ true → first_that (has_texts u l text) n ≡ 0 → ⊥
  unfolding is_found
  only_if e z =
      let k : Listed (precedes u (key_of l) sums) n (in_key_order u (key_of l) n) = in-key-order-lists u (key_of l) n in
      let there = key_place u l sums (in_key_order u (key_of l) n) text in
      let inside = ltb there (length (in_key_order u (key_of l) n)) in
      let has = has_texts u l text (get_or (in_key_order u (key_of l) n) there 0) in
      let h : there < length (in_key_order u (key_of l) n) = ltb-true there (length (in_key_order u (key_of l) n)) (both_left inside has e) in
      true≢false (sym (both_right inside has e) ∙ first-none (has_texts u l text) n z (get_or (in_key_order u (key_of l) n) there 0) (k.inside there (omega (arith, k.long))))

  pub found-exactly : is_found u l sums (in_key_order u (key_of l) n) text ≡ ltb 0 (first_that (has_texts u l text) n)
  found-exactly = go (first_that (has_texts u l text) n) refl
    where
      none : (b : Bool) → is_found u l sums (in_key_order u (key_of l) n) text ≡ b → first_that (has_texts u l text) n ≡ 0 → b ≡ false
      none true e z = absurd (only_if e z)
      none false e z = refl

      go : (k : ℕ) → first_that (has_texts u l text) n ≡ k → is_found u l sums (in_key_order u (key_of l) n) text ≡ ltb 0 k
      go zero e = none (is_found u l sums (in_key_order u (key_of l) n) text) refl e
      go (suc q) e =
          let f : First (has_texts u l text) n 0 q = first_found (has_texts u l text) n q e in
          found-if q (omega (arith, f.inside)) f.here ∙ sym (lt-ltb 0 (suc q) (omega arith))
