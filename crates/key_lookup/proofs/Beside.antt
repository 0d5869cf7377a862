-- What each way through a comparison with a record answers.
-- Assumes nothing.
use Prim.Native.Nat.{ℕ, ◌≤◌, ◌<◌}
use mathlib.Core.Path.{◌≡◌, sym, ◌∙◌}
use mathlib.Core.Bool.{Bool, true, false, not}
use mathlib.Core.List.{List, [], map}
use native.Mathlib.Omega.{arith}
use borrow.Author.Tests.{lt-ltb, le-ltb, eq-eqb, ne_eqb}
use lib.ListN.{length, get_or}
use Rattle.json_chars.specs.Chars.{chars_at}
use Rattle.json_same.specs.Same.{cased_as, same_as}
use Rattle.json_same.specs.declared.Case.TheVariants.{Folded}
use Rattle.key_sum.specs.Sum.{key_sum}
use Rattle.text_order.specs.Order.{order_of, text_order, may_precede}
use Rattle.text_order.specs.declared.Compared.{Compared}
use Rattle.text_order.proofs.Laws.{by_less, by-more, by-rest}
use Rattle.number_search.specs.Search.{searched}
use Rattle.rule_cells.specs.Cells.{Table, table, start_of, text_of}
use Rattle.key_order.specs.Order.{and_then}
use Rattle.key_lookup.specs.declared.Lookup.{Lookup}
use Rattle.key_lookup.specs.Lookup.{has_texts, second_parts, second_order, stands_before, key_place, is_found}

-- ---- the second text
module _ (b cells : List ℕ) (width : ℕ) (l : Lookup) (q : ℕ) where
  pub no_second : (l.kind ≡ 1 → ⊥) → false ≡ not (may_precede (second_order (table b cells width 0) l q))
  unfolding second_order second_parts order_of may_precede
  no_second h = rw (ne_eqb l.kind 1 h)

  pub second-told : (start : ℕ) (r : Compared) (x : Bool) → l.kind ≡ 1 → start ≡ start_of cells width q l.k → r ≡ text_order b l.also b start → x ≡ not (may_precede r) → x ≡ not (may_precede (second_order (table b cells width 0) l q))
  unfolding second_order second_parts text_order text_of
  second-told start r x h e f g = rw (eq-eqb l.kind 1 h, ← e, ← f) g

-- ---- one record beside what is looked up
module _ (u : Table) (l : Lookup) (sums : List ℕ) (sum : ℕ) (text : List ℕ) (q other : ℕ) (is : other ≡ get_or sums q 0) where
  abbrev Before : Bool → Type 0
  Before b = b ≡ stands_before u l sums sum text q

  pub sum-above : sum < other → Before false
  unfolding stands_before may_precede and_then
  sum-above h = rw (← is, by_less sum other (map (cased_as Folded) text) (map (cased_as Folded) (text_of u q l.m)) h)

  pub sum_below : other < sum → Before true
  unfolding stands_before may_precede and_then
  sum_below h = rw (← is, by-more sum other (map (cased_as Folded) text) (map (cased_as Folded) (text_of u q l.m)) h)

  -- where the sums are equal, by the first text and then the second
  pub text-decides : (s : List ℕ) (at start : ℕ) (r v : Compared) → text ≡ chars_at s at → start ≡ start_of u.cells u.width q l.m → r ≡ text_order s at u.bytes start → r ≡ v → sum ≤ other → other ≤ sum → Before (not (may_precede (and_then v (second_order u l q))))
  unfolding stands_before text_order text_of
  text-decides s at start r v e f g h i j =
      rw (← is, by-rest sum other (map (cased_as Folded) text) (map (cased_as Folded) (text_of u q l.m)) (omega arith), ← h, g, f, ← e)

-- ---- whether a record has it
module _ (s : List ℕ) (at : ℕ) (b cells : List ℕ) (width : ℕ) (l : Lookup) (q first : ℕ) (x : Bool) (is_first : first ≡ start_of cells width q l.m) (is_same : x ≡ same_as Folded (chars_at s at) (chars_at b first)) where
  first-same : same_as Folded (chars_at s at) (text_of (table b cells width 0) q l.m) ≡ x
  unfolding text_of
  first-same = sym (is_same ∙ rw is_first)

  pub first-differs : x ≡ false → false ≡ has_texts (table b cells width 0) l (chars_at s at) q
  unfolding has_texts
  first-differs e = rw (first-same, e)

  pub first_alone : x ≡ true → (l.kind ≡ 1 → ⊥) → true ≡ has_texts (table b cells width 0) l (chars_at s at) q
  unfolding has_texts
  first_alone e h = rw (first-same, e, ne_eqb l.kind 1 h)

  pub second-decides : (second : ℕ) (y : Bool) → x ≡ true → l.kind ≡ 1 → second ≡ start_of cells width q l.k → y ≡ same_as Folded (chars_at b l.also) (chars_at b second) → y ≡ has_texts (table b cells width 0) l (chars_at s at) q
  unfolding has_texts text_of
  second-decides second y e h f g = rw (first-same, e, eq-eqb l.kind 1 h, ← f) g

-- ---- the answer: with the place that was found, inside the list or at its end
module _ (s : List ℕ) (at : ℕ) (u : Table) (l : Lookup) (sums order : List ℕ) (sum i : ℕ) (is_sum : sum ≡ key_sum s at) (is_place : i ≡ searched (stands_before u l sums sum (chars_at s at)) order) where
  place_is : i ≡ key_place u l sums order (chars_at s at)
  unfolding key_place key_sum
  place_is = is_place ∙ rw is_sum

  pub found-told : (x : Bool) → i < length order → x ≡ has_texts u l (chars_at s at) (get_or order i 0) → x ≡ is_found u l sums order (chars_at s at)
  unfolding is_found
  found-told x h e = rw (← place_is, lt-ltb i (length order) h) e

  pub none_found : length order ≤ i → false ≡ is_found u l sums order (chars_at s at)
  unfolding is_found
  none_found h = rw (← place_is, le-ltb i (length order) h)
