-- A record breaks mark 80 exactly if no task with its parent's TaskID and the type is found in the order of tasks, and not where
-- one task is seen to have both. Assumes nothing.
use Prim.Native.Nat.{ℕ, ◌-◌, ◌<◌}
use mathlib.Core.Path.{◌≡◌, refl, sym, ap, ◌∙◌, fun_ext}
use mathlib.Core.Bool.{Bool, true, false, cond, not, ◌&&◌}
use mathlib.Core.List.{List}
use native.Mathlib.Nat.{sub-zero}
use native.Mathlib.Omega.{arith}
use borrow.Author.Tests.{eq-eqb, ne_eqb}
use lib.ListN.{length}
use lib.Dec.{ltb, eqb}
use Rattle.json_same.specs.Same.{same_as}
use Rattle.json_same.specs.declared.Case.TheVariants.{Folded}
use Rattle.json_same.proofs.Laws.{same-sym, same-trans}
use Rattle.rule_cells.specs.Cells.{Table, table, start_of, text_of, same_text, is_word, first_from, first_that}
use Rattle.rule_cells.proofs.First.{First, first_found}
use Rattle.rule_key.specs.declared.Key.{Key}
use Rattle.rule_key.proofs.Laws.{both_ways}
use Rattle.rule_outline.specs.declared.Outline.{Outline}
use Rattle.rule_outline.specs.Outline.{level_of, level_one, parent_shown, outline_at, some_of, is_typed, parent_type_breaks, parent_type_rule}
use Rattle.rule_outline.proofs.Laws.{parent-type-rule-starts}
use Rattle.rule_outline.proofs.Rules.{some-there}
use Rattle.key_order.specs.Order.{sums_of, in_key_order, are_fit, sums_after, order_after}
use Rattle.key_order.proofs.Lists.{fit-sums, fit-order}
use Rattle.key_lookup.specs.declared.Lookup.{Lookup}
use Rattle.key_lookup.specs.Lookup.{key_of, has_texts, is_found}
use Rattle.key_lookup.proofs.Laws.{found-exactly}
use Rattle.ordered_outline.specs.Typed.{type_breaks_lookup}

-- a text in field id, and in field type that which stands at a place
abbrev pub typed_at : ℕ → ℕ → ℕ → Lookup
typed_at id type also = record { m = id; k = type; kind = 1; also = also }

-- ---- one record of the rule, by the parent that is shown of it
module _ (t : Table) (level task : ℕ) (parents : ℕ → ℕ) (b cells : List ℕ) (width n id type : ℕ) (word : List ℕ) (r : ℕ) where
  shown-breaks : cond (eqb (parent_shown t level parents r) 0) false (not (some_of (is_typed t (parent_shown t level parents r - 1) task (table b cells width 0) id type word) n)) ≡ parent_type_breaks t level task parents (table b cells width n) id type word r
  unfolding parent_type_breaks parent_shown is_typed same_text is_word text_of
  shown-breaks = go (eqb (level_of t level r) level_one)
    where
      go : (x : Bool) → cond (eqb (cond x 0 (parents r)) 0) false (not (some_of (is_typed t (cond x 0 (parents r) - 1) task (table b cells width 0) id type word) n)) ≡ cond x false (cond (eqb (parents r) 0) false (not (some_of (is_typed t (parents r - 1) task (table b cells width 0) id type word) n)))
      go true = refl
      go false = refl

  module _ {p : ℕ} (is_shown : p ≡ parent_shown t level parents r) where
    pub no-parent-keeps : p ≡ 0 → parent_type_breaks t level task parents (table b cells width n) id type word r ≡ false
    no-parent-keeps e = sym shown-breaks ∙ rw (← is_shown, eq-eqb p 0 e)

    pub typed-parent-keeps : (p ≡ 0 → ⊥) → some_of (is_typed t (p - 1) task (table b cells width 0) id type word) n ≡ true → parent_type_breaks t level task parents (table b cells width n) id type word r ≡ false
    typed-parent-keeps e h = sym shown-breaks ∙ rw (← is_shown, ne_eqb p 0 e, h)

-- a task that is seen to have the TaskID and the type is one that has them
pub typed-there : (t : Table) (p task : ℕ) (u : Table) (n id type : ℕ) (word : List ℕ) (q : ℕ) → q < n → same_text t p task u q id ≡ true → is_word u q type word ≡ true → some_of (is_typed t p task u id type word) n ≡ true
unfolding is_typed
typed-there t p task u n id type word q l e h = some-there (is_typed t p task u id type word) n q l (rw (e, h))

-- ---- two texts of which one is a word are the same exactly if the other is
one_word : (a b word : List ℕ) → same_as Folded a word ≡ true → same_as Folded a b ≡ same_as Folded b word
one_word a b word e =
    both_ways (same_as Folded a b) (same_as Folded b word) (λ f. same-trans Folded b a word (same-sym Folded a b f) e) (λ f. same-trans Folded a word b e (same-sym Folded b word f))

module _ (b cells : List ℕ) (width id type : ℕ) (word : List ℕ) (q : ℕ) (is_type : is_word (table b cells width 0) q type word ≡ true) where
  abbrev l : Lookup
  l = typed_at id type (start_of cells width q type)

  has-typed : (t : Table) (p task r : ℕ) → has_texts (table b cells width 0) l (text_of t p task) r ≡ is_typed t p task (table b cells width 0) id type word r
  unfolding has_texts is_typed same_text is_word text_of
  has-typed t p task r =
      ap (λ (x : Bool). same_as Folded (text_of t p task) (text_of (table b cells width 0) r id) && x) (one_word (text_of (table b cells width 0) q type) (text_of (table b cells width 0) r type) word is_type)

  found-typed : (n : ℕ) (t : Table) (p task : ℕ) → is_found (table b cells width 0) l (sums_of (table b cells width 0) id n) (in_key_order (table b cells width 0) (key_of l) n) (text_of t p task) ≡ some_of (is_typed t p task (table b cells width 0) id type word) n
  unfolding some_of
  found-typed n t p task =
      found-exactly (table b cells width 0) l n (text_of t p task) ∙ ap (λ (f : ℕ → Bool). ltb 0 (first_that f n)) (fun_ext (has-typed t p task))

  module _ (t : Table) (n level task : ℕ) (parents : ℕ → ℕ) where
    breaks-same : (r : ℕ) → type_breaks_lookup t level task parents (table b cells width 0) l (sums_of (table b cells width 0) id n) (in_key_order (table b cells width 0) (key_of l) n) r ≡ parent_type_breaks t level task parents (table b cells width n) id type word r
    unfolding type_breaks_lookup
    breaks-same r =
        ap (λ (y : Bool). cond (eqb (parent_shown t level parents r) 0) false (not y)) (found-typed n t (parent_shown t level parents r - 1) task)
        ∙ shown-breaks t level task parents b cells width n id type word r

-- ---- what the lent lists say, once they are filled, is the rule's answer
module _ (s cells : List ℕ) (width n level task : ℕ) (parents : ℕ → ℕ) (u-bytes u-cells : List ℕ) (u-width u-n id type : ℕ) (word : List ℕ) where
  abbrev u : Table
  u = table u-bytes u-cells u-width 0

  the-typed : (typed : ℕ) → typed ≡ first_that (λ (q : ℕ). is_word u q type word) u-n → (typed ≡ 0 → ⊥) → is_word u (typed - 1) type word ≡ true
  the-typed typed e h =
      let f : First (λ (q : ℕ). is_word u q type word) u-n 0 (typed - 1) = first_found (λ (q : ℕ). is_word u q type word) u-n (typed - 1) (sym e ∙ omega arith) in
      f.here

  answers : (lookup : ℕ → Bool) (x : Outline) → ((r : ℕ) → lookup r ≡ parent_type_breaks (table s cells width 0) level task parents (table u-bytes u-cells u-width u-n) id type word r) → x ≡ outline_at (table s cells width 0) level parents (first_that lookup n) → x ≡ parent_type_rule (table s cells width n) level task parents (table u-bytes u-cells u-width u-n) id type word
  unfolding first_that
  answers lookup x same e =
      e ∙ ap (λ (f : ℕ → Bool). outline_at (table s cells width 0) level parents (first_from f n 0)) (fun_ext same)
      ∙ ap (λ (k : ℕ). outline_at (table s cells width 0) level parents (first_from (parent_type_breaks (table s cells width 0) level task parents (table u-bytes u-cells u-width u-n) id type word) k 0)) (sym (sub-zero n))
      ∙ sym (parent-type-rule-starts s cells width n level task parents (table u-bytes u-cells u-width u-n) id type word)

  pub filled-gives-rule : (key : Key) (sums order scratch sums' order' : List ℕ) (fit : Bool) (x : Outline) (typed also : ℕ) → typed ≡ first_that (λ (q : ℕ). is_word u q type word) u-n → (typed ≡ 0 → ⊥) → also ≡ start_of u-cells u-width (typed - 1) type → key ≡ key_of (typed_at id type also) → length order ≡ u-n → fit ≡ are_fit sums order scratch → fit ≡ true → sums' ≡ sums_after u key sums order scratch → order' ≡ order_after u key sums order scratch → x ≡ outline_at (table s cells width 0) level parents (first_that (type_breaks_lookup (table s cells width 0) level task parents u (typed_at id type also) sums' order') n) → x ≡ parent_type_rule (table s cells width n) level task parents (table u-bytes u-cells u-width u-n) id type word
  filled-gives-rule key sums order scratch sums' order' fit x typed also first some place c h f e g i j =
      let a : sums' ≡ sums_of u id u-n = g ∙ fit-sums sums order scratch u key (sym f ∙ e) ∙ rw (c, h) in
      let o : order' ≡ in_key_order u (key_of (typed_at id type (start_of u-cells u-width (typed - 1) type))) u-n = i ∙ fit-order sums order scratch u key (sym f ∙ e) ∙ rw (c, h) in
      answers (type_breaks_lookup (table s cells width 0) level task parents u (typed_at id type (start_of u-cells u-width (typed - 1) type)) (sums_of u id u-n) (in_key_order u (key_of (typed_at id type (start_of u-cells u-width (typed - 1) type))) u-n)) x
      (breaks-same u-bytes u-cells u-width id type word (typed - 1) (the-typed typed first some) (table s cells width 0) u-n level task parents)
      (j ∙ rw (a, o, place))
