-- Which record a mark of a rule names as its companion (document 02, order 5). Of a broken key it is the earliest record with
-- the same key. Of a broken outline rule it is the parent. A mark that holds or is not judged, and any other broken rule,
-- names none.
-- Assumes nothing.
use Prim.Native.Nat.{ℕ, zero, suc, ◌+◌}
use mathlib.Core.Path.{◌≡◌, refl, sym, ◌∙◌}
use mathlib.Core.Bool.{Bool, true, false, cond, true≢false}
use mathlib.Core.Logic.{◌⊎◌, inl, inr, ⊎_elim, ◌↔◌}
use mathlib.Core.List.{List}
use native.Mathlib.Numerals.{add-one}
use native.Mathlib.Omega.{arith}
use borrow.Author.Tests.{eq-eqb, eqb-true, eqb-false}
use lib.Dec.{leb, eqb}
use Rattle.mark_numbers.specs.declared.Mark.{Mark}
use Rattle.mark_numbers.specs.Marks.{holds, not_judged}
use Rattle.rule_cells.specs.Cells.{Table}
use Rattle.rule_key.specs.declared.Key.{Key}
use Rattle.rule_key.specs.Key.{key_rule}
use Rattle.rule_key.proofs.Laws.{Repeat, breaks-repeat}
use Rattle.rule_outline.specs.Outline.{level_one, level_of, parent_by, parent_of, parent_shown, outline_at, parent_rule, parent_type_rule}
use Rattle.rule_outline.proofs.Parents.{IsParent, parent-is-nearest, nearest-is-parent}
use Rattle.rule_tree.specs.Tree.{with_parent, tree_parent_rule}
use Rattle.rule_shape.specs.declared.Rule.{Rule}
use Rattle.rule_shape.specs.declared.Rule.TheVariants.{KeyOf, OneOf, NullUnless, GivenIf, GivenUnless, NoneBelow, SomeAbove, Together, LevelRun, ParentGiven, AllGiven, NoneGiven, InOrder, TreeLevels, TreeParent, TargetIn, ParentIs, LeafIn, EachHas}
use Rattle.rules.specs.declared.Break.{Break}
use Rattle.rules.specs.Judge.{alone, of_outline, parent_break, rule_break, mark_of}

-- ---- A mark of kind 1 is what the rule found
pub record Broken (m : Mark) (b : Break) : Type 0 where
  pub some : b.«record» ≡ 0 → ⊥
  pub place_is : m.place ≡ b.«record»
  pub companion-is : m.companion ≡ b.other

module _ (judged : Bool) (b : Break) where
  pub broken : (mark_of judged b).kind ≡ 1 → Broken (mark_of judged b) b
  unfolding mark_of
  broken = go judged (eqb b.«record» 0) refl
    where
      go : (j t : Bool) → eqb b.«record» 0 ≡ t
          → (cond j (cond t holds (record { kind = 1; place = b.«record»; companion = b.other })) not_judged).kind ≡ 1
          → Broken (cond j (cond t holds (record { kind = 1; place = b.«record»; companion = b.other })) not_judged) b
      go true true e k = absurd (omega arith)
      go true false e k = record { some = eqb-false b.«record» 0 e; place_is = refl; companion-is = refl }
      go false t e k = absurd (omega arith)

  unbroken : ((mark_of judged b).kind ≡ 1 → ⊥) → (mark_of judged b).companion ≡ 0
  unfolding mark_of
  unbroken = go judged (eqb b.«record» 0)
    where
      go : (j t : Bool) → ((cond j (cond t holds (record { kind = 1; place = b.«record»; companion = b.other })) not_judged).kind ≡ 1 → ⊥)
          → (cond j (cond t holds (record { kind = 1; place = b.«record»; companion = b.other })) not_judged).companion ≡ 0
      go true true n = refl
      go true false n = absurd (n refl)
      go false t n = refl

by-alone : (judged : Bool) (r : ℕ) → (mark_of judged (alone r)).companion ≡ 0
unfolding mark_of
by-alone judged r = go judged (eqb r 0)
  where
    go : (j b : Bool) → (cond j (cond b holds (record { kind = 1; place = r; companion = 0 })) not_judged).companion ≡ 0
    go true true = refl
    go true false = refl
    go false b = refl

-- ---- What an outline's record names: its parent, or 0, and that exactly if its Level is 1 or it has no parent
pub record ParentOrNone (levels : ℕ → ℕ) (r companion : ℕ) : Type 0 where
  pub parent : (q : ℕ) → companion ≡ q + 1 → IsParent levels r q
  pub none : (companion ≡ 0) ↔ ((levels r ≡ level_one) ⊎ ((q : ℕ) → IsParent levels r q → ⊥))

module _ (levels : ℕ → ℕ) (r : ℕ) where
  shown-parent : (q : ℕ) → cond (eqb (levels r) level_one) 0 (parent_by levels r) ≡ q + 1 → IsParent levels r q
  shown-parent q = go (eqb (levels r) level_one)
    where
      go : (t : Bool) → cond t 0 (parent_by levels r) ≡ q + 1 → IsParent levels r q
      go true e = absurd (omega arith)
      go false e = parent-is-nearest levels r q (e ∙ add-one q)

  shown-none : cond (eqb (levels r) level_one) 0 (parent_by levels r) ≡ 0 → (levels r ≡ level_one) ⊎ ((q : ℕ) → IsParent levels r q → ⊥)
  shown-none = go (eqb (levels r) level_one) refl
    where
      go : (t : Bool) → eqb (levels r) level_one ≡ t → cond t 0 (parent_by levels r) ≡ 0 → (levels r ≡ level_one) ⊎ ((q : ℕ) → IsParent levels r q → ⊥)
      go true e z = inl (eqb-true (levels r) level_one e)
      go false e z = inr (λ q p. omega (arith, nearest-is-parent levels r q p))

  none-shown : (levels r ≡ level_one) ⊎ ((q : ℕ) → IsParent levels r q → ⊥) → cond (eqb (levels r) level_one) 0 (parent_by levels r) ≡ 0
  none-shown =
      ⊎_elim (λ e. rw (eq-eqb (levels r) level_one e)) (λ n. go (eqb (levels r) level_one) (parent_by levels r) refl n)
    where
      go : (t : Bool) (p : ℕ) → parent_by levels r ≡ p → ((q : ℕ) → IsParent levels r q → ⊥) → cond t 0 (parent_by levels r) ≡ 0
      go true p e n = refl
      go false zero e n = e
      go false (suc q) e n = absurd (n q (parent-is-nearest levels r q e))

  shown : ParentOrNone levels r (cond (eqb (levels r) level_one) 0 (parent_by levels r))
  shown = record { parent = shown-parent; none = (shown-none, none-shown) }

-- a mark that is broken at a record of an outline
abbrev Outlined : Table → ℕ → Mark → Type 0
Outlined t level m = (r : ℕ) × ((m.place ≡ r + 1) × ParentOrNone (level_of t level) r m.companion)

outlined : (judged : Bool) (t : Table) (level k : ℕ) → (mark_of judged (parent_break t (outline_at t level (parent_of t level) k))).kind ≡ 1 → Outlined t level (mark_of judged (parent_break t (outline_at t level (parent_of t level) k)))
unfolding parent_break outline_at parent_shown
outlined judged t level k h = go (leb t.records 4096) k (broken judged _ h)
  where
    go : (few : Bool) (k : ℕ) {m : Mark} → Broken m (cond few (of_outline (outline_at t level (parent_of t level) k)) (alone 0)) → Outlined t level m
    go true zero w = absurd (w.some refl)
    go true (suc r) w = (r, (w.place_is ∙ sym (add-one r), rw w.companion-is (shown (level_of t level) r)))
    go false k w = absurd (w.some refl)

-- ---- What a tree's record names: its parent, or 0, and that exactly if it has none
pub record ParentOrZero (levels : ℕ → ℕ) (r companion : ℕ) : Type 0 where
  pub parent : (q : ℕ) → companion ≡ q + 1 → IsParent levels r q
  pub none : (companion ≡ 0) ↔ ((q : ℕ) → IsParent levels r q → ⊥)

tree-shown : (levels : ℕ → ℕ) (r : ℕ) → ParentOrZero levels r (parent_by levels r)
tree-shown levels r = record {
  parent = λ q e. parent-is-nearest levels r q (e ∙ add-one q);
  none = (λ e q p. omega (arith, nearest-is-parent levels r q p), λ n. go (parent_by levels r) refl n);
}
  where
    go : (p : ℕ) → parent_by levels r ≡ p → ((q : ℕ) → IsParent levels r q → ⊥) → parent_by levels r ≡ 0
    go zero e n = e
    go (suc q) e n = absurd (n q (parent-is-nearest levels r q e))

-- a mark that is broken at a record of a tree
abbrev InTree : Table → ℕ → Mark → Type 0
InTree t level m = (r : ℕ) × ((m.place ≡ r + 1) × ParentOrZero (level_of t level) r m.companion)

in_tree : (judged : Bool) (t : Table) (level k : ℕ) → (mark_of judged (parent_break t (with_parent (parent_of t level) k))).kind ≡ 1 → InTree t level (mark_of judged (parent_break t (with_parent (parent_of t level) k)))
unfolding parent_break with_parent
in_tree judged t level k h = go (leb t.records 4096) k (broken judged _ h)
  where
    go : (few : Bool) (k : ℕ) {m : Mark} → Broken m (cond few (of_outline (with_parent (parent_of t level) k)) (alone 0)) → InTree t level m
    go true zero w = absurd (w.some refl)
    go true (suc r) w = (r, (w.place_is ∙ sym (add-one r), rw w.companion-is (tree-shown (level_of t level) r)))
    go false k w = absurd (w.some refl)

-- ---- The statements, of the mark of any rule over any tables
-- rules whose break names another record
unfoldable pub names_companion : Rule → Bool
names_companion (KeyOf file key) = true
names_companion (OneOf file field first count) = false
names_companion (NullUnless file field when) = false
names_companion (GivenIf file field when) = false
names_companion (GivenUnless file field when) = false
names_companion (NoneBelow file from to) = false
names_companion (SomeAbove file from to) = false
names_companion (Together file from to) = false
names_companion (LevelRun file level) = false
names_companion (ParentGiven file parent level id) = true
names_companion (AllGiven file from to) = false
names_companion (NoneGiven file from to) = false
names_companion (InOrder file first second) = false
names_companion (TreeLevels file level) = false
names_companion (TreeParent file parent level id) = true
names_companion (TargetIn file field when other id) = false
names_companion (ParentIs file parent level id other other_id other_type value) = true
names_companion (LeafIn file field other id level) = false
names_companion (EachHas file field when other id) = false

module _ (judged : Bool) (places texts : List ℕ) (t u : Table) where
  abbrev mark_by : Rule → Mark
  mark_by rule = mark_of judged (rule_break places texts rule t u)

  -- "the earliest record with the same key": an earlier one, that has the key, and before which none has it
  pub companion-of-key : (file : ℕ) (key : Key) → (mark_by (KeyOf file key)).kind ≡ 1
      → (i : ℕ) × ((e : ℕ) × (((mark_by (KeyOf file key)).place ≡ i + 1) × (((mark_by (KeyOf file key)).companion ≡ e + 1) × Repeat t key i e)))
  unfolding rule_break
  companion-of-key file key h = go (key_rule t key).«record» refl
    where
      w : Broken (mark_by (KeyOf file key)) (record { «record» = (key_rule t key).«record»; other = (key_rule t key).same })
      w = broken judged _ h

      go : (k : ℕ) → (key_rule t key).«record» ≡ k → (i : ℕ) × ((e : ℕ) × (((mark_by (KeyOf file key)).place ≡ i + 1) × (((mark_by (KeyOf file key)).companion ≡ e + 1) × Repeat t key i e)))
      go zero z = absurd (w.some z)
      go (suc i) z =
          let at : (key_rule t key).«record» ≡ i + 1 = z ∙ sym (add-one i) in
          let found = breaks-repeat t key i at in
          (i, (found.0, (w.place_is ∙ at, (w.companion-is ∙ found.1.0, found.1.1))))

  -- "the parent's record": the nearest earlier record of lower Level, or 0
  pub companion-of-parent : (file parent level id : ℕ) → (mark_by (ParentGiven file parent level id)).kind ≡ 1 → Outlined t level (mark_by (ParentGiven file parent level id))
  unfolding rule_break parent_rule
  companion-of-parent file parent level id h = outlined judged t level _ h

  pub companion-of-parent-type : (file parent level id other other_id other_type value : ℕ) → (mark_by (ParentIs file parent level id other other_id other_type value)).kind ≡ 1 → Outlined t level (mark_by (ParentIs file parent level id other other_id other_type value))
  unfolding rule_break parent_type_rule
  companion-of-parent-type file parent level id other other_id other_type value h = outlined judged t level _ h

  pub companion-of-tree-parent : (file parent level id : ℕ) → (mark_by (TreeParent file parent level id)).kind ≡ 1 → InTree t level (mark_by (TreeParent file parent level id))
  unfolding rule_break tree_parent_rule
  companion-of-tree-parent file parent level id h = in_tree judged t level _ h

  -- "otherwise 0": of a mark that is not broken, and of every other rule
  pub companion-none : (rule : Rule) → ((mark_by rule).kind ≡ 1 → ⊥) ⊎ (names_companion rule ≡ false) → (mark_by rule).companion ≡ 0
  unfolding names_companion rule_break
  companion-none rule = ⊎_elim (unbroken judged _) (alone-so rule)
    where
      alone-so : (rule : Rule) → names_companion rule ≡ false → (mark_by rule).companion ≡ 0
      alone-so (KeyOf file key) e = absurd (true≢false e)
      alone-so (OneOf file field first count) e = by-alone judged _
      alone-so (NullUnless file field when) e = by-alone judged _
      alone-so (GivenIf file field when) e = by-alone judged _
      alone-so (GivenUnless file field when) e = by-alone judged _
      alone-so (NoneBelow file from to) e = by-alone judged _
      alone-so (SomeAbove file from to) e = by-alone judged _
      alone-so (Together file from to) e = by-alone judged _
      alone-so (LevelRun file level) e = by-alone judged _
      alone-so (ParentGiven file parent level id) e = absurd (true≢false e)
      alone-so (AllGiven file from to) e = by-alone judged _
      alone-so (NoneGiven file from to) e = by-alone judged _
      alone-so (InOrder file first second) e = by-alone judged _
      alone-so (TreeLevels file level) e = by-alone judged _
      alone-so (TreeParent file parent level id) e = absurd (true≢false e)
      alone-so (TargetIn file field when other id) e = by-alone judged _
      alone-so (ParentIs file parent level id other other_id other_type value) e = absurd (true≢false e)
      alone-so (LeafIn file field other id level) e = by-alone judged _
      alone-so (EachHas file field when other id) e = by-alone judged _
