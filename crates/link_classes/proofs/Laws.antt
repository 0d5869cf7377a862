-- Two IDs of links have one class exactly if they are the same, where one of them is a predecessor.
-- Assumes nothing.
use Prim.Native.Nat.{ℕ, zero, suc, ◌<◌}
use mathlib.Core.Path.{◌≡◌, refl, sym, ap, ◌∙◌, fun_ext}
use mathlib.Core.Bool.{Bool, true, false, ◌&&◌, true≢false}
use mathlib.Core.List.{List, map}
use native.Mathlib.Omega.{arith}
use borrow.Author.Tests.{eq-eqb, eqb-true, ltb-true, lt-ltb}
use lib.ListN.{length, get_or}
use lib.Dec.{ltb, eqb}
use Rattle.json_bytes.proofs.Laws.{both_left, both_right}
use Rattle.json_same.specs.Same.{cased_as, same_as}
use Rattle.json_same.specs.declared.Case.TheVariants.{Folded}
use Rattle.json_same.proofs.Laws.{same-cased, same_refl, same-sym, same-trans}
use Rattle.key_sum.specs.Sum.{sum_of}
use Rattle.number_search.specs.Search.{searched}
use Rattle.rule_cells.specs.Cells.{Table, text_of, same_text, first_that}
use Rattle.rule_cells.proofs.First.{first-none}
use Rattle.rule_key.proofs.Laws.{both_ways}
use Rattle.key_order.specs.Order.{precedes, sums_of, in_key_order}
use Rattle.key_order.proofs.Listed.{Listed, in-key-order-lists}
use Rattle.key_lookup.specs.Lookup.{key_of, has_texts, stands_before, key_place, is_found}
use Rattle.key_lookup.proofs.Laws.{found-exactly}
use Rattle.link_classes.specs.Classes.{predecessor_id, successor_id, by_predecessor, class_in, class_of}

-- ---- the same text has the same class, whatever it is looked up in
module _ (t : Table) (sums order x y : List ℕ) (e : same_as Folded x y ≡ true) where
  folded : map (cased_as Folded) x ≡ map (cased_as Folded) y
  folded = same-cased Folded x y e

  stands_same : (q : ℕ) → stands_before t by_predecessor sums (sum_of (map (cased_as Folded) x)) x q ≡ stands_before t by_predecessor sums (sum_of (map (cased_as Folded) y)) y q
  unfolding stands_before
  stands_same q = rw folded

  place_same : key_place t by_predecessor sums order x ≡ key_place t by_predecessor sums order y
  unfolding key_place
  place_same = ap (λ (f : ℕ → Bool). searched f order) (fun_ext stands_same)

  same-either : (z : List ℕ) → same_as Folded x z ≡ same_as Folded y z
  same-either z =
      both_ways (same_as Folded x z) (same_as Folded y z) (λ f. same-trans Folded y x z (same-sym Folded x y e) f) (λ f. same-trans Folded x y z e f)

  has_same : (q : ℕ) → has_texts t by_predecessor x q ≡ has_texts t by_predecessor y q
  unfolding has_texts
  has_same q = ap (λ (b : Bool). b && true) (same-either (text_of t q predecessor_id))

  found-same : is_found t by_predecessor sums order x ≡ is_found t by_predecessor sums order y
  unfolding is_found
  found-same = rw place_same (ap (λ (b : Bool). ltb (key_place t by_predecessor sums order y) (length order) && b) (has_same (get_or order (key_place t by_predecessor sums order y) 0)))

  pub class_same : class_in t sums order x ≡ class_in t sums order y
  unfolding class_in
  class_same = rw (found-same, place_same)

-- ---- among the first n links of a table
module _ (t : Table) (n : ℕ) where
  abbrev sums : List ℕ
  sums = sums_of t predecessor_id n

  abbrev order : List ℕ
  order = in_key_order t (key_of by_predecessor) n

  listed : Listed (precedes t (key_of by_predecessor) sums) n order
  listed = in-key-order-lists t (key_of by_predecessor) n

  -- what is found stands at its place
  record At (x : List ℕ) : Type 0 where
    inside : key_place t by_predecessor sums order x < n
    same : same_as Folded x (text_of t (get_or order (key_place t by_predecessor sums order x) 0) predecessor_id) ≡ true
    class : class_in t sums order x ≡ key_place t by_predecessor sums order x

  found_at : (x : List ℕ) → is_found t by_predecessor sums order x ≡ true → At x
  unfolding is_found has_texts class_in
  found_at x e =
      let place = key_place t by_predecessor sums order x in
      let here = same_as Folded x (text_of t (get_or order place 0) predecessor_id) in
      record {
        inside = omega (arith, ltb-true place (length order) (both_left (ltb place (length order)) (here && true) e), listed.long);
        same = both_left here true (both_right (ltb place (length order)) (here && true) e);
        class = rw e;
      }

  own-text : (q : ℕ) → has_texts t by_predecessor (text_of t q predecessor_id) q ≡ true
  unfolding has_texts
  own-text q = rw (same_refl Folded (text_of t q predecessor_id))

  none_in : (x : List ℕ) → is_found t by_predecessor sums order x ≡ false → class_in t sums order x ≡ length order
  unfolding class_in
  none_in x f = rw f

  -- a predecessor is found
  predecessor-found : (q : ℕ) → q < n → is_found t by_predecessor sums order (text_of t q predecessor_id) ≡ true
  predecessor-found q h = found-exactly t by_predecessor n (text_of t q predecessor_id) ∙ go (first_that (has_texts t by_predecessor (text_of t q predecessor_id)) n) refl
    where
      has : has_texts t by_predecessor (text_of t q predecessor_id) q ≡ true
      has = own-text q

      go : (k : ℕ) → first_that (has_texts t by_predecessor (text_of t q predecessor_id)) n ≡ k → ltb 0 k ≡ true
      go zero e = absurd (true≢false (sym has ∙ first-none (has_texts t by_predecessor (text_of t q predecessor_id)) n e q h))
      go (suc k) e = lt-ltb 0 (suc k) (omega arith)

  pub class-below : (q : ℕ) → q < n → class_of t n predecessor_id q < n
  unfolding class_of
  class-below q h = let a = found_at (text_of t q predecessor_id) (predecessor-found q h) in omega (arith, a.class, a.inside)

  -- a class that a predecessor has is that of a text that is found
  one_class : (x : List ℕ) (q : ℕ) → q < n → class_in t sums order x ≡ class_of t n predecessor_id q → same_as Folded x (text_of t q predecessor_id) ≡ true
  unfolding class_of
  one_class x q h e = go (is_found t by_predecessor sums order x) refl
    where
      behind : is_found t by_predecessor sums order x ≡ false → ⊥
      behind f = omega (arith, none_in x f, e, class-below q h, listed.long)

      go : (b : Bool) → is_found t by_predecessor sums order x ≡ b → same_as Folded x (text_of t q predecessor_id) ≡ true
      go true f =
          let a = found_at x f in
          let b = found_at (text_of t q predecessor_id) (predecessor-found q h) in
          let z : key_place t by_predecessor sums order x ≡ key_place t by_predecessor sums order (text_of t q predecessor_id) = sym a.class ∙ e ∙ b.class in
          same-trans Folded x (text_of t (get_or order (key_place t by_predecessor sums order x) 0) predecessor_id) (text_of t q predecessor_id) a.same (same-sym Folded (text_of t q predecessor_id) (text_of t (get_or order (key_place t by_predecessor sums order x) 0) predecessor_id) (rw z b.same))
      go false f = absurd (behind f)

  pub leads-same : (r q : ℕ) → q < n → eqb (class_of t n successor_id r) (class_of t n predecessor_id q) ≡ same_text t r successor_id t q predecessor_id
  unfolding same_text class_of
  leads-same r q h =
      both_ways (eqb (class_of t n successor_id r) (class_of t n predecessor_id q)) (same_as Folded (text_of t r successor_id) (text_of t q predecessor_id))
      (λ e. one_class (text_of t r successor_id) q h (eqb-true (class_of t n successor_id r) (class_of t n predecessor_id q) e))
      (λ e. eq-eqb (class_of t n successor_id r) (class_of t n predecessor_id q) (class_same t sums order (text_of t r successor_id) (text_of t q predecessor_id) e))
