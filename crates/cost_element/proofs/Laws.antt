-- An assignment is of an element exactly if a resource with its ID and that element is found in the order of resources.
-- Assumes nothing.
use Prim.Native.Nat.{ℕ, zero, suc, ◌+◌, ◌-◌, ◌≤◌, ◌<◌}
use mathlib.Core.Path.{◌≡◌, refl, sym, ap, ◌∙◌, fun_ext}
use mathlib.Core.Bool.{Bool, true, false, cond, ◌&&◌}
use mathlib.Core.List.{List}
use native.Mathlib.Omega.{arith}
use borrow.Author.Tests.{eq-eqb, ne_eqb, le-leb, lt-leb}
use lib.ListN.{length, get_or}
use lib.Dec.{ltb, leb, eqb}
use Rattle.json_same.specs.Same.{same_as}
use Rattle.json_same.specs.declared.Case.TheVariants.{Folded}
use Rattle.json_same.proofs.Laws.{same-sym, same-trans}
use Rattle.mark_numbers.specs.Marks.{list_of}
use Rattle.mark_numbers.proofs.Laws.{list_at, list_same}
use Rattle.rule_cells.specs.Cells.{Table, start_of, text_of, same_text, is_word, first_from, first_that}
use Rattle.rule_cells.proofs.First.{First, first_found, first-none, none_first}
use Rattle.rule_key.proofs.Laws.{both_ways}
use Rattle.rule_key.specs.declared.Key.{Key}
use Rattle.key_order.specs.Order.{sums_of, in_key_order, are_fit, sums_after, order_after}
use Rattle.key_order.proofs.Lists.{fit-sums, fit-order}
use Rattle.key_lookup.specs.declared.Lookup.{Lookup}
use Rattle.key_lookup.specs.Lookup.{key_of, has_texts, is_found}
use Rattle.key_lookup.proofs.Laws.{found-exactly}
use Rattle.cost_element.specs.Element.{assigned_id, resource_id, element_id, element_name, has_element, is_of, element_of, elements_after}
use Rattle.cost_element.specs.Found.{first_of_element, lookup_at, is_of_found, element_found}

-- ---- two texts of which one is a word are the same exactly if the other is
one_word : (a b word : List ℕ) → same_as Folded a word ≡ true → same_as Folded a b ≡ same_as Folded b word
one_word a b word e =
    both_ways (same_as Folded a b) (same_as Folded b word) (λ f. same-trans Folded b a word (same-sym Folded a b f) e) (λ f. same-trans Folded a word b e (same-sym Folded b word f))

and_none : (b : Bool) → (b && false) ≡ false
and_none true = refl
and_none false = refl

-- the first of so many is the same for two tests that agree on them
first-from-same : (f g : ℕ → Bool) (n i : ℕ) → ((j : ℕ) → i ≤ j → j < i + n → f j ≡ g j) → first_from f n i ≡ first_from g n i
unfolding first_from
first-from-same f g zero i h = refl
first-from-same f g (suc n) i h =
    rw (h i (omega arith) (omega arith), first_from) (step (g i) (first-from-same f g n (suc i) (λ j l m. h j (omega arith) (omega arith))))
  where
    step : (b : Bool) → first_from f n (suc i) ≡ first_from g n (suc i) → ◌≡◌ {A = ℕ} (elim b [ true ↦ suc i | false ↦ first_from f n (suc i) ]) (elim b [ true ↦ suc i | false ↦ first_from g n (suc i) ])
    step true e = refl
    step false e = e

pub first-same : (f g : ℕ → Bool) (n : ℕ) → ((i : ℕ) → i < n → f i ≡ g i) → first_that f n ≡ first_that g n
unfolding first_that
first-same f g n h = first-from-same f g n 0 (λ i l m. h i (omega arith))

one_less : (k : ℕ) → suc k - 1 ≡ k
one_less k = omega arith

module _ (t : Table) (u : Table) (n r e : ℕ) where
  -- ---- with a resource of the element at hand
  module _ (q : ℕ) (named : is_word u q element_id (element_name e) ≡ true) where
    abbrev l : Lookup
    l = lookup_at (start_of u.cells u.width q element_id)

    has-element : (p : ℕ) → has_texts u l (text_of t r assigned_id) p ≡ has_element t r u e p
    unfolding has_texts has_element same_text is_word text_of
    has-element p =
        ap (λ (x : Bool). same_as Folded (text_of t r assigned_id) (text_of u p resource_id) && x) (one_word (text_of u q element_id) (text_of u p element_id) (element_name e) named)

    found-is : is_found u l (sums_of u resource_id n) (in_key_order u (key_of l) n) (text_of t r assigned_id) ≡ is_of t u n r e
    unfolding is_of
    found-is =
        found-exactly u l n (text_of t r assigned_id) ∙ ap (λ (f : ℕ → Bool). ltb 0 (first_that f n)) (fun_ext has-element)

  -- ---- and with none
  none_is : first_of_element u n e ≡ 0 → false ≡ is_of t u n r e
  unfolding is_of has_element first_of_element
  none_is z = sym (rw (none_first (has_element t r u e) n (λ q h. rw (first-none (λ (q : ℕ). is_word u q element_id (element_name e)) n z q h) (and_none (same_text t r assigned_id u q resource_id)))))

  module _ (firsts : List ℕ) (is : get_or firsts e 0 ≡ first_of_element u n e) where
    first-named : (k : ℕ) → first_of_element u n e ≡ suc k → is_word u k element_id (element_name e) ≡ true
    unfolding first_of_element
    first-named k z =
        let f : First (λ (q : ℕ). is_word u q element_id (element_name e)) n 0 k = first_found (λ (q : ℕ). is_word u q element_id (element_name e)) n k z in
        f.here

    pub found_of : is_of_found u firsts (sums_of u resource_id n) (in_key_order u (key_of (lookup_at 0)) n) (text_of t r assigned_id) e ≡ is_of t u n r e
    unfolding is_of_found
    found_of = rw is (go (first_of_element u n e) refl)
      where
        go : (k : ℕ) → first_of_element u n e ≡ k → cond (eqb k 0) false (is_found u (lookup_at (start_of u.cells u.width (k - 1) element_id)) (sums_of u resource_id n) (in_key_order u (key_of (lookup_at 0)) n) (text_of t r assigned_id)) ≡ is_of t u n r e
        go zero z = none_is z
        go (suc k) z = rw (ne_eqb (suc k) 0 (λ q. omega arith), one_less k) (found-is k (first-named k z))

-- ---- the element of an assignment, and the elements of all
module _ (t u : Table) (n : ℕ) (firsts : List ℕ) (are : firsts ≡ list_of (first_of_element u n) 4) where
  pub element-found : (r : ℕ) → element_found u firsts (sums_of u resource_id n) (in_key_order u (key_of (lookup_at 0)) n) (text_of t r assigned_id) ≡ element_of t u n r
  unfolding element_found element_of
  element-found r =
      first-same _ (is_of t u n r) 4 (λ e h. found_of t u n r e firsts (rw are (list_at (first_of_element u n) 4 e h)))

  pub elements-found : (list last : List ℕ) (m : ℕ) → m ≡ n → n ≤ 4096 → last ≡ list_of (λ (r : ℕ). element_found u firsts (sums_of u resource_id m) (in_key_order u (key_of (lookup_at 0)) m) (text_of t r assigned_id)) (length list) → (true ≡ leb n 4096) × (last ≡ elements_after t u n list)
  unfolding elements_after
  elements-found list last m s h e =
      (sym (le-leb n 4096 h), e ∙ rw (s, le-leb n 4096 h) (list_same _ (element_of t u n) (length list) (λ r l. element-found r)))

pub elements-kept : (t u : Table) (n : ℕ) (list : List ℕ) → 4096 < n → (false ≡ leb n 4096) × (list ≡ elements_after t u n list)
unfolding elements_after
elements-kept t u n list h = (sym (lt-leb n 4096 h), rw (lt-leb n 4096 h))

-- ---- what each way through the lookup answers
module _ (u : Table) (firsts sums order text : List ℕ) (e first : ℕ) (is : first ≡ get_or firsts e 0) where
  pub none_found : first ≡ 0 → false ≡ is_of_found u firsts sums order text e
  unfolding is_of_found
  none_found z = rw (← is, eq-eqb first 0 z)

  pub looked-up : (first ≡ 0 → ⊥) → (also : ℕ) → also ≡ start_of u.cells u.width (first - 1) element_id → (x : Bool) → x ≡ is_found u (lookup_at also) sums order text → x ≡ is_of_found u firsts sums order text e
  unfolding is_of_found
  looked-up z also a x f = rw (← is, ne_eqb first 0 z, ← a) f

-- ---- the elements, found in lists that were filled with the order
pub found-in-order : (t u : Table) (firsts sums order scratch sums' order' : List ℕ) (key : Key) (n : ℕ) (last : List ℕ) → are_fit sums order scratch ≡ true → key ≡ key_of (lookup_at 0) → sums' ≡ sums_after u key sums order scratch → order' ≡ order_after u key sums order scratch
    → last ≡ list_of (λ (r : ℕ). element_found u firsts sums' order' (text_of t r assigned_id)) n
    → last ≡ list_of (λ (r : ℕ). element_found u firsts (sums_of u resource_id (length order)) (in_key_order u (key_of (lookup_at 0)) (length order)) (text_of t r assigned_id)) n
found-in-order t u firsts sums order scratch sums' order' key n last fit k a o e =
    let x : sums' ≡ sums_of u resource_id (length order) = a ∙ fit-sums sums order scratch u key fit ∙ rw k in
    let y : order' ≡ in_key_order u (key_of (lookup_at 0)) (length order) = o ∙ fit-order sums order scratch u key fit ∙ rw k in
    e ∙ rw (x, y)

-- a resource whose element is a name is one of the element with that name
pub named-as : (u : Table) (n e : ℕ) {name : List ℕ} (x : ℕ) → x ≡ first_that (λ (q : ℕ). is_word u q element_id name) n → name ≡ element_name e → x ≡ first_of_element u n e
unfolding first_of_element
named-as u n e x f is = f ∙ rw is
