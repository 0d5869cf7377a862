-- The turns of the loops over a tree's records. Assumes nothing.
use Prim.Native.Nat.{ℕ, zero, suc, ◌+◌, ◌-◌, ◌≤◌, ◌<◌}
use mathlib.Core.Path.{◌≡◌, sym, ap, ◌∙◌}
use mathlib.Core.Bool.{Bool}
use native.Mathlib.Nat.{sub-zero}
use native.Mathlib.Omega.{arith}
use borrow.Author.Tests.{eq-eqb, ne_eqb}
use Rattle.rule_cells.specs.Cells.{Table, first_from, first_that}
use Rattle.rule_cells.proofs.Laws.{search-hits, search-goes-on, search-ends}
use Rattle.rule_outline.specs.Outline.{level_one, level_of}
use Rattle.rule_tree.specs.Tree.{first_breaks, next_breaks, tree_level_breaks, tree_level_rule}

-- ---- Levels
-- a Level behind the one before it
pub next-told : (levels : ℕ → ℕ) (r : ℕ) {before at : ℕ} {b : Bool} → 1 ≤ r → before ≡ levels (r - 1) → at ≡ levels r → b ≡ next_breaks before at → tree_level_breaks levels r ≡ b
unfolding tree_level_breaks
next-told levels zero l e a q = absurd (omega arith)
next-told levels (suc r) l e a q =
    let z : suc r - 1 ≡ r = omega arith in
    sym (q ∙ rw (e, a, z))

pub before-next : (t : Table) (level r : ℕ) {at : ℕ} → at ≡ level_of t level r → at ≡ level_of t level (r + 1 - 1)
before-next t level r e =
    let z : r + 1 - 1 ≡ r = omega arith in
    e ∙ ap (level_of t level) (sym z)

module _ (t : Table) (level : ℕ) where
  level-starts : tree_level_rule t level ≡ first_from (tree_level_breaks (level_of t level)) (t.records - 0) 0
  unfolding tree_level_rule first_that
  level-starts = rw (sub-zero t.records)

  pub no-levels : t.records ≡ 0 → 0 ≡ tree_level_rule t level
  no-levels e = sym (level-starts ∙ search-ends (tree_level_breaks (level_of t level)) t.records 0 (omega arith))

  module _ {at : ℕ} (some : 0 < t.records) (is_level : at ≡ level_of t level 0) where
    pub first-breaks : (at ≡ level_one → ⊥) → 1 ≡ tree_level_rule t level
    unfolding tree_level_breaks first_breaks
    first-breaks h =
        sym (level-starts ∙ search-hits (tree_level_breaks (level_of t level)) t.records 0 some (rw (← is_level, ne_eqb at level_one h)))

    pub first-keeps : at ≡ level_one → tree_level_rule t level ≡ first_from (tree_level_breaks (level_of t level)) (t.records - 1) 1
    unfolding tree_level_breaks first_breaks
    first-keeps h =
        level-starts ∙ search-goes-on (tree_level_breaks (level_of t level)) t.records 0 some (rw (← is_level, eq-eqb at level_one h))
