-- The rule on parents over a list that was filled with them is document 000's, which is over the parents themselves.
-- Assumes nothing.
use Prim.Native.Nat.{ℕ, zero, suc, ◌<◌}
use mathlib.Core.Path.{◌≡◌, refl, ap, ◌∙◌}
use mathlib.Core.Bool.{true}
use mathlib.Core.List.{List}
use native.Mathlib.Omega.{arith}
use Rattle.rule_cells.specs.Cells.{Table, first_that}
use Rattle.rule_cells.proofs.First.{first_found}
use Rattle.rule_outline.specs.Outline.{parent_of, parents_have_room, with_parents, held_in}
use Rattle.rule_outline.proofs.Rules.{first-same, filled-holds}
use Rattle.rule_tree.specs.Tree.{tree_parent_breaks, with_parent, tree_parent_rule}

-- ---- Two accounts of the parents that agree on the table's records give one rule
module _ (t : Table) (p q : ℕ → ℕ) (agree : (r : ℕ) → r < t.records → p r ≡ q r) where
  same_at : (k : ℕ) → ((r : ℕ) → k ≡ suc r → p r ≡ q r) → with_parent p k ≡ with_parent q k
  unfolding with_parent
  same_at zero h = refl
  same_at (suc r) h = rw (h r refl)

  tree-parent-same : (id parent : ℕ) → tree_parent_rule t id parent p ≡ tree_parent_rule t id parent q
  unfolding tree_parent_rule tree_parent_breaks
  tree-parent-same id parent =
      same_at (first_that (tree_parent_breaks t id parent p) t.records) (λ r e. agree r (omega (arith, (first_found (tree_parent_breaks t id parent p) t.records r e).inside)))
      ∙ ap (with_parent q) (first-same (tree_parent_breaks t id parent p) (tree_parent_breaks t id parent q) t.records (λ r l. alike r (agree r l)))
    where
      alike : (r : ℕ) → p r ≡ q r → tree_parent_breaks t id parent p r ≡ tree_parent_breaks t id parent q r
      alike r e = rw e

-- ---- so it may be asked over a list that was filled with them
pub filled-tree-parents : (t : Table) (level : ℕ) (list : List ℕ) → parents_have_room t.records list ≡ true → (id parent : ℕ) → tree_parent_rule t id parent (held_in (with_parents t level list)) ≡ tree_parent_rule t id parent (parent_of t level)
filled-tree-parents t level list room id parent =
    tree-parent-same t (held_in (with_parents t level list)) (parent_of t level) (filled-holds t level list room) id parent
