-- What a rule finds hangs on a table's cells only through what stands at each place, with 0 past the end: over cells that agree
-- at every place, of which one list may be longer by zeros, every rule finds the same.
-- Assumes nothing.
use Prim.Native.Nat.{ℕ, zero, suc, ◌+◌, ◌*◌, ◌-◌}
use mathlib.Core.Path.{◌≡◌, refl, ap, ap₂, ◌∙◌, fun_ext}
use mathlib.Core.Bool.{Bool, true, false, not}
use mathlib.Core.List.{List}
use lib.ListN.{get_or}
use Rattle.table_rows.specs.Rows.{value_text_at}
use Rattle.rule_cells.specs.Cells.{table, cell_of, start_of, is_given, text_of, same_text, is_word, is_true, integer_in, date_in, sign_in, first_that}
use Rattle.rule_when.specs.When.{is_value, holds_when}
use Rattle.rule_when.specs.declared.When.{When}
use Rattle.rule_key.specs.Key.{same_field, same_key, earliest, repeats, key_rule}
use Rattle.rule_key.specs.declared.Key.{Key}
use Rattle.rule_value.specs.Value.{is_one_of, breaks_field, field_rule}
use Rattle.rule_value.specs.declared.FieldRule.{FieldRule}
use Rattle.rule_target.specs.Target.{target_of, breaks_target, target_rule}
use Rattle.rule_dates.specs.Dates.{breaks_order, dates_in_order_rule}
use Rattle.rule_hours.specs.Hours.{any_field, lies_below, is_above, is_null, breaks, none_below_rule, some_above_rule, together_rule, all_given_rule, none_given_rule}
use Rattle.rule_outline.specs.Outline.{level_of, parent_by, parent_of, parent_shown, outline_at, parent_breaks, parent_rule, some_of, is_typed, parent_type_breaks, parent_type_rule, level_rule}
use Rattle.rule_outline.specs.declared.Outline.{Outline}
use Rattle.rule_tree.specs.Tree.{tree_level_rule, tree_parent_breaks, with_parent, tree_parent_rule, names_a_parent, leaf_breaks, leaf_rule}
use Rattle.rule_shape.specs.declared.Rule.{Rule}
use Rattle.rule_shape.specs.declared.Rule.TheVariants.{KeyOf, OneOf, NullUnless, GivenIf, GivenUnless, NoneBelow, SomeAbove, Together, LevelRun, ParentGiven, AllGiven, NoneGiven, InOrder, TreeLevels, TreeParent, TargetIn, ParentIs, LeafIn, EachHas}
use Rattle.rules.specs.Judge.{alone, of_key, parent_break, rule_break}

-- ---- Tests that agree at every place
first_alike : (f g : ℕ → Bool) (n : ℕ) → ((i : ℕ) → f i ≡ g i) → first_that f n ≡ first_that g n
first_alike f g n h = ap (λ p. first_that p n) (fun_ext h)

any-alike : (f g : ℕ → Bool) (from to : ℕ) → ((k : ℕ) → f k ≡ g k) → any_field f from to ≡ any_field g from to
any-alike f g from to h = ap (λ p. any_field p from to) (fun_ext h)

some_alike : (f g : ℕ → Bool) (n : ℕ) → ((i : ℕ) → f i ≡ g i) → some_of f n ≡ some_of g n
some_alike f g n h = ap (λ p. some_of p n) (fun_ext h)

-- ---- Which fields are given, and where they start
module _ (c d : List ℕ) (w : ℕ) (same : (i : ℕ) → get_or c i 0 ≡ get_or d i 0) where
  cell-alike : (r j : ℕ) → cell_of c w r j ≡ cell_of d w r j
  unfolding cell_of
  cell-alike r j = rw (same (r * w + j))

  given-alike : (r k : ℕ) → is_given c w r k ≡ is_given d w r k
  unfolding is_given
  given-alike r k = rw (cell-alike r (2 * k + 1))

  start-alike : (r k : ℕ) → start_of c w r k ≡ start_of d w r k
  unfolding start_of
  start-alike r k = cell-alike r (2 * k)

  null-alike : (r k : ℕ) → is_null c w r k ≡ is_null d w r k
  unfolding is_null
  null-alike r k = rw (given-alike r k)

  any-given-alike : (r from to : ℕ) → any_field (is_given c w r) from to ≡ any_field (is_given d w r) from to
  any-given-alike r from to = any-alike _ _ from to (given-alike r)

  any-null-alike : (r from to : ℕ) → any_field (is_null c w r) from to ≡ any_field (is_null d w r) from to
  any-null-alike r from to = any-alike _ _ from to (null-alike r)

  together-alike : (n from to : ℕ) → together_rule c w n from to ≡ together_rule d w n from to
  unfolding together_rule breaks
  together-alike n from to = first_alike _ _ n (λ r. rw (any-given-alike r from to, any-null-alike r from to))

  all-given-alike : (n from to : ℕ) → all_given_rule c w n from to ≡ all_given_rule d w n from to
  unfolding all_given_rule breaks
  all-given-alike n from to = first_alike _ _ n (λ r. any-null-alike r from to)

  none-given-alike : (n from to : ℕ) → none_given_rule c w n from to ≡ none_given_rule d w n from to
  unfolding none_given_rule breaks
  none-given-alike n from to = first_alike _ _ n (λ r. any-given-alike r from to)

-- ---- What a rule sees of a field, and what it finds in one table
module _ (s c d : List ℕ) (w : ℕ) (same : (i : ℕ) → get_or c i 0 ≡ get_or d i 0) where
  text-alike : (n r k : ℕ) → text_of (table s c w n) r k ≡ text_of (table s d w n) r k
  unfolding text_of
  text-alike n r k = rw (start-alike c d w same r k)

  word-alike : (n r k : ℕ) (word : List ℕ) → is_word (table s c w n) r k word ≡ is_word (table s d w n) r k word
  unfolding is_word
  word-alike n r k word = rw (text-alike n r k)

  true-alike : (n r k : ℕ) → is_true (table s c w n) r k ≡ is_true (table s d w n) r k
  unfolding is_true
  true-alike n r k = rw (given-alike c d w same r k, start-alike c d w same r k)

  integer-alike : (n r k : ℕ) → integer_in (table s c w n) r k ≡ integer_in (table s d w n) r k
  unfolding integer_in
  integer-alike n r k = rw (given-alike c d w same r k, start-alike c d w same r k)

  date-alike : (n r k : ℕ) → date_in (table s c w n) r k ≡ date_in (table s d w n) r k
  unfolding date_in
  date-alike n r k = rw (text-alike n r k)

  sign-alike : (n r k : ℕ) → sign_in (table s c w n) r k ≡ sign_in (table s d w n) r k
  unfolding sign_in
  sign-alike n r k = rw (given-alike c d w same r k, start-alike c d w same r k)

  value-alike : (n r k : ℕ) (places texts : List ℕ) (v : ℕ) → is_value (table s c w n) r k places texts v ≡ is_value (table s d w n) r k places texts v
  unfolding is_value
  value-alike n r k places texts v = word-alike n r k _

  when-alike : (n r : ℕ) (when : When) (places texts : List ℕ) → holds_when (table s c w n) r when places texts ≡ holds_when (table s d w n) r when places texts
  unfolding holds_when
  when-alike n r when places texts = simp (given-alike c d w same, true-alike, value-alike)

  target-alike : (text : List ℕ) (n k : ℕ) → target_of text (table s c w n) k ≡ target_of text (table s d w n) k
  unfolding target_of
  target-alike text n k = first_alike _ _ n (λ q. rw (text-alike 0 q k))

  level-alike : (n level : ℕ) → level_of (table s c w n) level ≡ level_of (table s d w n) level
  unfolding level_of
  level-alike n level = fun_ext (λ r. rw (integer-alike n r level))

  -- ---- Keys
  field_alike : (n kind k i j : ℕ) → same_field (table s c w n) kind k i j ≡ same_field (table s d w n) kind k i j
  unfolding same_field same_text
  field_alike n kind k i j = simp (text-alike, integer-alike, date-alike)

  same-key-alike : (n : ℕ) (key : Key) (i j : ℕ) → same_key (table s c w n) key i j ≡ same_key (table s d w n) key i j
  unfolding same_key
  same-key-alike n key i j = simp field_alike

  earliest-alike : (n : ℕ) (key : Key) (i : ℕ) → earliest (table s c w n) key i ≡ earliest (table s d w n) key i
  unfolding earliest
  earliest-alike n key i = first_alike _ _ i (λ j. same-key-alike n key j i)

  repeats-alike : (n : ℕ) (key : Key) (i : ℕ) → repeats (table s c w n) key i ≡ repeats (table s d w n) key i
  unfolding repeats
  repeats-alike n key i = rw (earliest-alike n key i)

  key-alike : (n : ℕ) (key : Key) → key_rule (table s c w n) key ≡ key_rule (table s d w n) key
  unfolding key_rule
  key-alike n key =
      rw (first_alike (repeats (table s c w n) key) (repeats (table s d w n) key) n (repeats-alike n key))
      (ap (λ e. record { «record» = first_that (repeats (table s d w n) key) n; same = e }) (earliest-alike n key _))

  -- ---- A field by itself or by another
  one-of-alike : (r k : ℕ) (places texts : List ℕ) (n v : ℕ) → is_one_of (table s c w 0) r k places texts n v ≡ is_one_of (table s d w 0) r k places texts n v
  unfolding is_one_of
  one-of-alike r k places texts zero v = refl
  one-of-alike r k places texts (suc n) v =
      ap₂ (λ (is later : Bool). elim is [ true ↦ true | false ↦ later ]) (value-alike 0 r k places texts v) (one-of-alike r k places texts n (suc v))

  breaks-field-alike : (k : ℕ) (rule : FieldRule) (places texts : List ℕ) (r : ℕ) → breaks_field (table s c w 0) k rule places texts r ≡ breaks_field (table s d w 0) k rule places texts r
  unfolding breaks_field
  breaks-field-alike k (FieldRule.OneOf v n) places texts r = rw (given-alike c d w same r k, one-of-alike r k places texts n v)
  breaks-field-alike k (FieldRule.NullUnless when) places texts r = rw (given-alike c d w same r k, when-alike 0 r when places texts)
  breaks-field-alike k (FieldRule.GivenIf when wanted) places texts r = rw (given-alike c d w same r k, when-alike 0 r when places texts)

  field-rule-alike : (n k : ℕ) (rule : FieldRule) (places texts : List ℕ) → field_rule (table s c w n) k rule places texts ≡ field_rule (table s d w n) k rule places texts
  unfolding field_rule
  field-rule-alike n k rule places texts = first_alike _ _ n (breaks-field-alike k rule places texts)

  -- ---- A run of fields, and two Dates
  below_alike : (n from to : ℕ) → none_below_rule (table s c w n) from to ≡ none_below_rule (table s d w n) from to
  unfolding none_below_rule breaks lies_below
  below_alike n from to = first_alike _ _ n (λ r. any-alike _ _ from to (λ k. rw (sign-alike n r k)))

  above-alike : (n from to : ℕ) → some_above_rule (table s c w n) from to ≡ some_above_rule (table s d w n) from to
  unfolding some_above_rule breaks is_above
  above-alike n from to = first_alike _ _ n (λ r. ap not (any-alike _ _ from to (λ k. rw (sign-alike n r k))))

  in-order-alike : (n first second : ℕ) → dates_in_order_rule (table s c w n) first second ≡ dates_in_order_rule (table s d w n) first second
  unfolding dates_in_order_rule breaks_order
  in-order-alike n first second = first_alike _ _ n (λ r. simp (given-alike c d w same, date-alike))

  -- ---- Levels and parents
  levels-alike : (n level : ℕ) → level_rule (table s c w n) level ≡ level_rule (table s d w n) level
  unfolding level_rule
  levels-alike n level = rw (level-alike n level)

  tree-levels-alike : (n level : ℕ) → tree_level_rule (table s c w n) level ≡ tree_level_rule (table s d w n) level
  unfolding tree_level_rule
  tree-levels-alike n level = rw (level-alike n level)

  parents-alike : (n level : ℕ) → parent_of (table s c w n) level ≡ parent_of (table s d w n) level
  parents-alike n level = ap (λ levels r. parent_by levels r) (level-alike n level)

  outline-alike : (n level : ℕ) (parents : ℕ → ℕ) (k : ℕ) → outline_at (table s c w n) level parents k ≡ outline_at (table s d w n) level parents k
  unfolding outline_at parent_shown
  outline-alike n level parents zero = refl
  outline-alike n level parents (suc r) = rw (level-alike n level)

  -- with the parents of the records given
  parent-breaks-alike : (n level id parent : ℕ) (parents : ℕ → ℕ) (r : ℕ) → parent_breaks (table s c w n) level id parent parents r ≡ parent_breaks (table s d w n) level id parent parents r
  unfolding parent_breaks same_text
  parent-breaks-alike n level id parent parents r = rw (level-alike n level) (simp (given-alike c d w same, text-alike))

  parent-rule-alike : (n level id parent : ℕ) → parent_rule (table s c w n) level id parent (parent_of (table s c w n) level) ≡ parent_rule (table s d w n) level id parent (parent_of (table s d w n) level)
  unfolding parent_rule
  parent-rule-alike n level id parent =
      ap (λ parents. parent_rule (table s c w n) level id parent parents) (parents-alike n level)
      ∙ outline-alike n level (parent_of (table s d w n) level) _
      ∙ ap (outline_at (table s d w n) level (parent_of (table s d w n) level)) (first_alike _ _ n (parent-breaks-alike n level id parent (parent_of (table s d w n) level)))

  tree-breaks-alike : (n id parent : ℕ) (parents : ℕ → ℕ) (r : ℕ) → tree_parent_breaks (table s c w n) id parent parents r ≡ tree_parent_breaks (table s d w n) id parent parents r
  unfolding tree_parent_breaks same_text
  tree-breaks-alike n id parent parents r = simp (given-alike c d w same, text-alike)

  tree-parent-alike : (n level id parent : ℕ) → tree_parent_rule (table s c w n) id parent (parent_of (table s c w n) level) ≡ tree_parent_rule (table s d w n) id parent (parent_of (table s d w n) level)
  unfolding tree_parent_rule
  tree-parent-alike n level id parent =
      ap (λ parents. tree_parent_rule (table s c w n) id parent parents) (parents-alike n level)
      ∙ ap (with_parent (parent_of (table s d w n) level)) (first_alike _ _ n (tree-breaks-alike n id parent (parent_of (table s d w n) level)))

-- ---- Two tables
module _ (s u c d c' d' : List ℕ) (w v n m : ℕ) (same : (i : ℕ) → get_or c i 0 ≡ get_or c' i 0) (same' : (i : ℕ) → get_or d i 0 ≡ get_or d' i 0) where
  texts-alike : (a b r k q l : ℕ) → same_text (table s c w a) r k (table u d v b) q l ≡ same_text (table s c' w a) r k (table u d' v b) q l
  unfolding same_text
  texts-alike a b r k q l = rw (text-alike s c c' w same a r k, text-alike u d d' v same' b q l)

  breaks-target-alike : (k : ℕ) (when : When) (id : ℕ) (places texts : List ℕ) (r : ℕ) → breaks_target (table s c w 0) k when (table u d v m) id places texts r ≡ breaks_target (table s c' w 0) k when (table u d' v m) id places texts r
  unfolding breaks_target
  breaks-target-alike k when id places texts r =
      rw (given-alike c c' w same r k, when-alike s c c' w same 0 r when places texts, text-alike s c c' w same 0 r k, target-alike u d d' v same' (text_of (table s c' w 0) r k) m id)

  target-rule-alike : (k : ℕ) (when : When) (id : ℕ) (places texts : List ℕ) → target_rule (table s c w n) k when (table u d v m) id places texts ≡ target_rule (table s c' w n) k when (table u d' v m) id places texts
  unfolding target_rule
  target-rule-alike k when id places texts = first_alike _ _ n (breaks-target-alike k when id places texts)

  typed-alike : (p task id type : ℕ) (word : List ℕ) (q : ℕ) → is_typed (table s c w n) p task (table u d v m) id type word q ≡ is_typed (table s c' w n) p task (table u d' v m) id type word q
  unfolding is_typed
  typed-alike p task id type word q = rw (texts-alike n m p task q id, word-alike u d d' v same' m q type word)

  type-breaks-alike : (level task : ℕ) (parents : ℕ → ℕ) (id type : ℕ) (word : List ℕ) (r : ℕ) → parent_type_breaks (table s c w n) level task parents (table u d v m) id type word r ≡ parent_type_breaks (table s c' w n) level task parents (table u d' v m) id type word r
  unfolding parent_type_breaks
  type-breaks-alike level task parents id type word r =
      rw (level-alike s c c' w same n level, some_alike _ (is_typed (table s c' w n) (parents r - 1) task (table u d' v m) id type word) m (typed-alike (parents r - 1) task id type word))

  parent-type-alike : (level task id type : ℕ) (word : List ℕ)
      → parent_type_rule (table s c w n) level task (parent_of (table s c w n) level) (table u d v m) id type word ≡ parent_type_rule (table s c' w n) level task (parent_of (table s c' w n) level) (table u d' v m) id type word
  unfolding parent_type_rule
  parent-type-alike level task id type word =
      ap (λ parents. parent_type_rule (table s c w n) level task parents (table u d v m) id type word) (parents-alike s c c' w same n level)
      ∙ outline-alike s c c' w same n level (parent_of (table s c' w n) level) _
      ∙ ap (outline_at (table s c' w n) level (parent_of (table s c' w n) level)) (first_alike _ _ n (type-breaks-alike level task (parent_of (table s c' w n) level) id type word))

  names-parent-alike : (r k id level q : ℕ) → names_a_parent (table s c w n) r k (table u d v m) id level q ≡ names_a_parent (table s c' w n) r k (table u d' v m) id level q
  unfolding names_a_parent
  names-parent-alike r k id level q = rw (texts-alike n m r k q id, level-alike u d d' v same' m level)

  leaf-breaks-alike : (k id level r : ℕ) → leaf_breaks (table s c w n) k (table u d v m) id level r ≡ leaf_breaks (table s c' w n) k (table u d' v m) id level r
  unfolding leaf_breaks
  leaf-breaks-alike k id level r =
      rw (given-alike c c' w same r k, some_alike _ (names_a_parent (table s c' w n) r k (table u d' v m) id level) m (names-parent-alike r k id level))

  leaf-alike : (k id level : ℕ) → leaf_rule (table s c w n) k (table u d v m) id level ≡ leaf_rule (table s c' w n) k (table u d' v m) id level
  unfolding leaf_rule
  leaf-alike k id level = first_alike _ _ n (leaf-breaks-alike k id level)

-- ---- The statement
parent-break-alike : (s c d : List ℕ) (w n : ℕ) (a b : Outline) → a ≡ b → parent_break (table s c w n) a ≡ parent_break (table s d w n) b
unfolding parent_break
parent-break-alike s c d w n a b e = rw e

pub rule-alike : (places texts s u c d c' d' : List ℕ) (w v n m : ℕ) → ((i : ℕ) → get_or c i 0 ≡ get_or c' i 0) → ((i : ℕ) → get_or d i 0 ≡ get_or d' i 0)
    → (rule : Rule) → rule_break places texts rule (table s c w n) (table u d v m) ≡ rule_break places texts rule (table s c' w n) (table u d' v m)
unfolding rule_break
rule-alike places texts s u c d c' d' w v n m same same' = go
  where
    go : (rule : Rule) → rule_break places texts rule (table s c w n) (table u d v m) ≡ rule_break places texts rule (table s c' w n) (table u d' v m)
    go (KeyOf file key) = ap of_key (key-alike s c c' w same n key)
    go (OneOf file field first count) = ap alone (field-rule-alike s c c' w same n field (FieldRule.OneOf first count) places texts)
    go (NullUnless file field when) = ap alone (field-rule-alike s c c' w same n field (FieldRule.NullUnless when) places texts)
    go (GivenIf file field when) = ap alone (field-rule-alike s c c' w same n field (FieldRule.GivenIf when true) places texts)
    go (GivenUnless file field when) = ap alone (field-rule-alike s c c' w same n field (FieldRule.GivenIf when false) places texts)
    go (NoneBelow file from to) = ap alone (below_alike s c c' w same n from to)
    go (SomeAbove file from to) = ap alone (above-alike s c c' w same n from to)
    go (Together file from to) = ap alone (together-alike c c' w same n from to)
    go (LevelRun file level) = ap alone (levels-alike s c c' w same n level)
    go (ParentGiven file parent level id) = parent-break-alike s c c' w n _ _ (parent-rule-alike s c c' w same n level id parent)
    go (AllGiven file from to) = ap alone (all-given-alike c c' w same n from to)
    go (NoneGiven file from to) = ap alone (none-given-alike c c' w same n from to)
    go (InOrder file first second) = ap alone (in-order-alike s c c' w same n first second)
    go (TreeLevels file level) = ap alone (tree-levels-alike s c c' w same n level)
    go (TreeParent file parent level id) = parent-break-alike s c c' w n _ _ (tree-parent-alike s c c' w same n level id parent)
    go (TargetIn file field when other id) = ap alone (target-rule-alike s u c d c' d' w v n m same same' field when id places texts)
    go (EachHas file field when other id) = ap alone (target-rule-alike s u c d c' d' w v n m same same' field when id places texts)
    go (ParentIs file parent level id other other_id other_type value) =
        parent-break-alike s c c' w n _ _ (parent-type-alike s u c d c' d' w v n m same same' level id other_id other_type (value_text_at places texts value))
    go (LeafIn file field other id level) = ap alone (leaf-alike s u c d c' d' w v n m same same' field id level)
