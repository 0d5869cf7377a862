-- What the rules of a tree mean: its Levels, its parents, and that what is named in it is a leaf.
-- Assumes nothing.
use Prim.Native.Nat.{ℕ, zero, suc, ◌+◌, ◌-◌, ◌<◌, ◌≤◌}
use mathlib.Core.Path.{◌≡◌, refl, sym, ap, ◌∙◌}
use mathlib.Core.Bool.{true, false, not, ◌&&◌}
use mathlib.Core.Logic.{◌↔◌}
use native.Mathlib.Decide.{ℕ_discrete}
use native.Mathlib.Numerals.{add-one}
use native.Mathlib.Omega.{arith}
use borrow.Author.Tests.{eq-eqb, ne_eqb, eqb-true, lt-ltb, ltb-true, le-leb, leb-true, not-false}
use lib.Dec.{ltb, leb, eqb}
use Rattle.json_bytes.proofs.Laws.{both_left, both_right}
use Rattle.rule_cells.specs.Cells.{Table, is_given, same_text}
use Rattle.rule_outline.specs.Outline.{level_one, level_of, parent_of, some_of}
use Rattle.rule_outline.proofs.Parents.{parent-is-nearest, nearest-is-parent}
use Rattle.rule_outline.proofs.Rules.{some-there, some-is-there}
use Rattle.rule_tree.specs.Tree.{first_breaks, next_breaks, tree_level_breaks, tree_level_rule, tree_parent_breaks, with_parent, tree_parent_rule, has_child, names_a_parent, leaf_breaks, leaf_rule}
use Rattle.rule_tree.proofs.Children.{child-means}
use Rattle.rule_meaning.specs.Keeps.{Answers, Given, HasLevel, KeepsTree, HasTreeParent, NamesParentOf, NamesLeaf}
use Rattle.rule_meaning.proofs.Answers.{answers, not-true-false, not-false-true, never_both}
use Rattle.rule_meaning.proofs.Levels.{level-from, level-is}

-- ---- Levels
module _ (t : Table) (level : ℕ) where
  first-keeps : (tree_level_breaks (level_of t level) 0 ≡ false) ↔ KeepsTree t level 0
  unfolding tree_level_breaks first_breaks
  first-keeps = (
    λ e.
        (let one : level_of t level 0 ≡ level_one = eqb-true (level_of t level 0) level_one (not-false _ e) in
        let w = level-from t level 0 (omega arith) in
        record {
          l = w.0;
          here = w.1;
          first = λ _. omega (arith, w.2);
          later = λ q z. absurd (omega arith);
        }),
    λ k.
        (let one : level_of t level 0 ≡ level_one = omega (arith, level-is t level 0 k.l k.here, k.first refl) in
        ap not (eq-eqb (level_of t level 0) level_one one)),
  )

  -- a Level that the test lets pass behind the one before
  kept : (r : ℕ) → level_one < level_of t level (suc r) → level_of t level (suc r) ≤ level_of t level r + 1 → KeepsTree t level (suc r)
  kept r least most =
      let w = level-from t level (suc r) (omega arith) in
      let v = level-from t level r (omega arith) in
      record {
        l = w.0;
        here = w.1;
        first = λ z. absurd (omega arith);
        later = λ q z. (
          omega (arith, w.2),
          (v.0, moved q v.0 (omega arith) v.1, omega (arith, v.2, w.2)),
        );
      }
    where
      moved : (q b : ℕ) → r ≡ q → HasLevel t level r b → HasLevel t level q b
      moved q b z h = rw z at h

  later-keeps : (r : ℕ) → (tree_level_breaks (level_of t level) (suc r) ≡ false) ↔ KeepsTree t level (suc r)
  unfolding tree_level_breaks next_breaks
  later-keeps r = (
    λ e.
        (let both = not-false (ltb level_one (level_of t level (suc r)) && leb (level_of t level (suc r)) (level_of t level r + 1)) e in
        kept r (ltb-true _ _ (both_left _ _ both)) (leb-true _ _ (both_right (ltb level_one (level_of t level (suc r))) _ both))),
    λ k.
        (let v = k.later r (sym (add-one r)) in
        let here = level-is t level (suc r) k.l k.here in
        let before = level-is t level r v.1.0 v.1.1 in
        rw (lt-ltb level_one (level_of t level (suc r)) (omega (arith, v.0)), le-leb (level_of t level (suc r)) (level_of t level r + 1) (omega (arith, v.1.2)))),
  )

  keeps : (r : ℕ) → (tree_level_breaks (level_of t level) r ≡ false) ↔ KeepsTree t level r
  keeps zero = first-keeps
  keeps (suc r) = later-keeps r

  -- the rule holds exactly if the first Level is 1 and every other at least 2 and at most one more than the one before, and else
  -- names the first record of which that is not so
  pub tree-levels-mean : Answers (KeepsTree t level) t.records (tree_level_rule t level)
  unfolding tree_level_rule
  tree-levels-mean = answers (tree_level_breaks (level_of t level)) (KeepsTree t level) keeps t.records

-- ---- Parents
module _ (t : Table) (level id parent : ℕ) where
  -- the answer names the first breaking record
  named : (k : ℕ) → (with_parent (parent_of t level) k).«record» ≡ k
  unfolding with_parent
  named zero = refl
  named (suc r) = refl

  module _ (r : ℕ) where
    Tests : Type 0
    Tests = (tree_parent_breaks t id parent (parent_of t level) r ≡ false) ↔ HasTreeParent t level id parent r

    at_first : r ≡ 0 → Tests
    unfolding tree_parent_breaks Tests
    at_first e =
        let zeroth = eq-eqb r 0 e in (
          λ b. record { first = λ _ g. never_both g (rw zeroth at b); other = λ n. absurd (n e) },
          λ h. rw zeroth (not-true-false (is_given t.cells t.width r parent) (h.first e)),
        )

    without : (r ≡ 0 → ⊥) → parent_of t level r ≡ 0 → Tests
    unfolding tree_parent_breaks Tests
    without n e = (
      λ b. absurd (never_both refl (rw (ne_eqb r 0 n, eq-eqb (parent_of t level r) 0 e) at b)),
      λ h. absurd (omega (arith, (h.other n).1)),
    )

    below : (r ≡ 0 → ⊥) → (q : ℕ) → parent_of t level r ≡ suc q → Tests
    unfolding tree_parent_breaks Tests
    below n q e =
        let some : eqb (parent_of t level r) 0 ≡ false = ne_eqb (parent_of t level r) 0 (omega arith) in
        let less : parent_of t level r - 1 ≡ q = omega arith in (
          λ b.
              (let both = not-false _ (rw (ne_eqb r 0 n, some, less) at b) in
              record {
                first = λ z. absurd (n z);
                other = λ _. (q, e ∙ sym (add-one q), both_left _ _ both, both_right (is_given t.cells t.width r parent) _ both);
              }),
          λ h.
              (let w = h.other n in
              let same : w.0 ≡ q = omega (arith, w.1) in
              rw (ne_eqb r 0 n, some, less, w.2, rw same at w.3)),
        )

    tests : Tests
    tests = go (ℕ_discrete r 0) (parent_of t level r) refl
      where
        go : Dec (r ≡ 0) → (x : ℕ) → parent_of t level r ≡ x → Tests
        go (yes e) x p = at_first e
        go (no n) zero p = without n p
        go (no n) (suc q) p = below n q p

  -- the rule holds exactly if the first record has a null ParentID and every other has a parent and its ID, and else names the
  -- first of which that is not so
  pub tree-parents-mean : Answers (HasTreeParent t level id parent) t.records (tree_parent_rule t id parent (parent_of t level)).«record»
  unfolding tree_parent_rule Tests
  tree-parents-mean = rw named (answers _ (HasTreeParent t level id parent) tests t.records)

-- ---- Leaves
module _ (t : Table) (k : ℕ) (u : Table) (id level : ℕ) where
  module _ (r : ℕ) where
    -- an element that is named and has a child
    named-parent : some_of (names_a_parent t r k u id level) u.records ≡ true → (q : ℕ) × (c : ℕ) × NamesParentOf t k u id level r q c
    unfolding names_a_parent
    named-parent e =
        let w = some-is-there (λ (q : ℕ). same_text t r k u q id && has_child (level_of u level) u.records q) u.records e in
        let c = (child-means (level_of u level) u.records w.0).0 (both_right (same_text t r k u w.0 id) _ w.2) in (
          w.0,
          c.0,
          record {
            inside = w.1;
            same = both_left _ _ w.2;
            child-inside = c.1;
            child = nearest-is-parent (level_of u level) c.0 w.0 c.2 ∙ sym (add-one w.0);
          },
        )

    parent-named : (q c : ℕ) → NamesParentOf t k u id level r q c → some_of (names_a_parent t r k u id level) u.records ≡ true
    unfolding names_a_parent
    parent-named q c w =
        some-there (λ (q : ℕ). same_text t r k u q id && has_child (level_of u level) u.records q) u.records q w.inside
        (rw w.same ((child-means (level_of u level) u.records q).1 (c, w.child-inside, parent-is-nearest (level_of u level) c q (w.child ∙ add-one q))))

    leaf-told : (leaf_breaks t k u id level r ≡ false) ↔ NamesLeaf t k u id level r
    unfolding leaf_breaks
    leaf-told = (
      λ e g q c w. never_both (rw (g, parent-named q c w)) e,
      λ h. not-true-false (is_given t.cells t.width r k && some_of (names_a_parent t r k u id level) u.records)
          (λ b. (let w = named-parent (both_right (is_given t.cells t.width r k) _ b) in h (both_left _ _ b) w.0 w.1 w.2)),
    )

    -- a record that does not name a leaf names an element with a child
    pub no-leaf : (NamesLeaf t k u id level r → ⊥) → Given t k r × ((q : ℕ) × (c : ℕ) × NamesParentOf t k u id level r q c)
    unfolding leaf_breaks
    no-leaf broken =
        let b : (is_given t.cells t.width r k && some_of (names_a_parent t r k u id level) u.records) ≡ true = not-false-true _ (λ e. broken (leaf-told.0 e)) in
        (both_left _ _ b, named-parent (both_right (is_given t.cells t.width r k) _ b))

  -- the rule holds exactly if no record names an element that has a child, and else names the first that does
  pub leaves-mean : Answers (NamesLeaf t k u id level) t.records (leaf_rule t k u id level)
  unfolding leaf_rule
  leaves-mean = answers (leaf_breaks t k u id level) (NamesLeaf t k u id level) leaf-told t.records
