-- The columns as the code fills them, in lists of its own that hold the order of the links.
-- Assumes nothing.
use Prim.Native.Nat.{ℕ, ◌≤◌, ◌<◌}
use mathlib.Core.Path.{◌≡◌, sym, ◌∙◌}
use mathlib.Core.Bool.{Bool, true, false}
use mathlib.Core.List.{List}
use borrow.Author.Tests.{eq-eqb, ne_eqb, le-leb, lt-leb}
use lib.ListN.{length}
use Rattle.json_chars.specs.Chars.{chars_at}
use Rattle.key_sum.specs.Sum.{key_sum}
use Rattle.mark_numbers.specs.Marks.{list_of}
use Rattle.number_search.specs.Search.{searched}
use Rattle.rule_cells.specs.Cells.{Table, text_of}
use Rattle.rule_key.specs.declared.Key.{Key}
use Rattle.key_order.specs.Order.{sums_of, in_key_order, are_fit, sums_after, order_after}
use Rattle.key_order.proofs.Lists.{fit-sums, fit-order}
use Rattle.key_lookup.specs.declared.Lookup.{Lookup}
use Rattle.key_lookup.specs.Lookup.{key_of, stands_before, key_place, is_found}
use Rattle.link_classes.specs.Classes.{predecessor_id, successor_id, by_predecessor, class_in, class_of, are_columns, column_after}

-- ---- a class, by what was found
module _ (s : List ℕ) (at : ℕ) (t : Table) (sums order : List ℕ) (l : Lookup) (l-is : l ≡ by_predecessor) (found : Bool) (found-is : found ≡ is_found t l sums order (chars_at s at)) where
  same-lookup : is_found t by_predecessor sums order (chars_at s at) ≡ found
  same-lookup = sym (rw l-is at found-is)

  found_here : found ≡ true → is_found t by_predecessor sums order (chars_at s at) ≡ true
  found_here e = same-lookup ∙ e

  pub place-told : found ≡ true → (sum r : ℕ) → sum ≡ key_sum s at → r ≡ searched (stands_before t l sums sum (chars_at s at)) order → r ≡ class_in t sums order (chars_at s at)
  unfolding class_in key_place key_sum
  place-told e sum r a b = b ∙ rw (found_here e, a, l-is)

-- ---- lists that were filled with the order
module _ (t : Table) (k : ℕ) (sums order scratch : List ℕ) {sums' order' : List ℕ} {key : Key} {l : Lookup} (fit : are_fit sums order scratch ≡ true) (l-is : l ≡ by_predecessor) (key-is : key ≡ key_of l)
    (sums-are : sums' ≡ sums_after t key sums order scratch) (order_is : order' ≡ order_after t key sums order scratch) where
  pub classes-in-order : (m : ℕ) (last : List ℕ) → last ≡ list_of (λ (r : ℕ). class_in t sums' order' (text_of t r k)) m
      → last ≡ list_of (λ (r : ℕ). class_in t (sums_of t predecessor_id (length order)) (in_key_order t (key_of by_predecessor) (length order)) (text_of t r k)) m
  classes-in-order m last e =
      let x : sums' ≡ sums_of t predecessor_id (length order) = sums-are ∙ fit-sums sums order scratch t key fit ∙ rw (key-is, l-is) in
      let y : order' ≡ in_key_order t (key_of by_predecessor) (length order) = order_is ∙ fit-order sums order scratch t key fit ∙ rw (key-is, l-is) in
      e ∙ rw (x, y)

-- ---- each way through
module _ (t : Table) (from to : List ℕ) where
  pub columns-filled : (m : ℕ) (from' to' : List ℕ) → length from ≤ 4096 → length to ≡ length from → m ≡ length from
      → from' ≡ list_of (λ (r : ℕ). class_in t (sums_of t predecessor_id m) (in_key_order t (key_of by_predecessor) m) (text_of t r predecessor_id)) (length from)
      → to' ≡ list_of (λ (r : ℕ). class_in t (sums_of t predecessor_id m) (in_key_order t (key_of by_predecessor) m) (text_of t r successor_id)) (length to)
      → (true ≡ are_columns from to) × (from' ≡ column_after t predecessor_id (are_columns from to) from) × (to' ≡ column_after t successor_id (are_columns from to) to)
  unfolding are_columns column_after class_of
  columns-filled m from' to' h l z a b =
      let e = le-leb (length from) 4096 h in
      let f = eq-eqb (length to) (length from) l in
      (rw (e, f), rw (e, f) (a ∙ rw z), rw (e, f) (b ∙ rw (z, l)))
