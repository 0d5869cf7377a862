-- The rules of an outline over a list that was lent for the parents: with room in it they are those over the parents
-- themselves, and a list of 4,096 lacks room only for more records than a table has.
-- Assumes nothing.
use Prim.Native.Nat.{ℕ}
use mathlib.Core.Path.{◌≡◌, ap, ◌∙◌}
use mathlib.Core.Bool.{Bool, true, false, ◌&&◌}
use mathlib.Core.List.{List}
use lib.Dec.{leb}
use lib.ListN.{length}
use Rattle.json_bytes.proofs.Laws.{both_left}
use Rattle.rule_cells.specs.Cells.{Table}
use Rattle.rule_outline.specs.Outline.{parents_have_room, with_parents, held_in, parent_of, parent_rule, parent_type_rule}
use Rattle.rule_outline.specs.declared.Outline.{Outline}
use Rattle.rule_outline.proofs.Rules.{filled-parent-rule, filled-parent-type-rule}
use Rattle.rule_tree.specs.Tree.{tree_parent_rule}
use Rattle.rule_tree.proofs.Rules.{filled-tree-parents}
use Rattle.rules.specs.Judge.{alone, of_outline, parent_break}

-- ---- Room
few : (n : ℕ) (list : List ℕ) → parents_have_room n list ≡ true → leb n 4096 ≡ true
unfolding parents_have_room
few n list e = both_left (leb n 4096) (leb n (length list)) e

both_false : (b : Bool) → (b && b) ≡ false → b ≡ false
both_false true e = e
both_false false e = e

many : (n : ℕ) (list : List ℕ) → length list ≡ 4096 → parents_have_room n list ≡ false → leb n 4096 ≡ false
unfolding parents_have_room
many n list l e = both_false (leb n 4096) (rw l at e)

-- ---- Over a list with room, as it was after it was filled
module _ (t : Table) (list held : List ℕ) (level id : ℕ) (found : Outline) where
  module _ (room : parents_have_room t.records list ≡ true) (filled : held ≡ with_parents t level list) where
    pub parent-judged : (parent : ℕ) → found ≡ parent_rule t level id parent (held_in held) → of_outline found ≡ parent_break t (parent_rule t level id parent (parent_of t level))
    unfolding parent_break
    parent-judged parent e =
        rw (few t.records list room)
        (ap of_outline (e ∙ ap (λ h. parent_rule t level id parent (held_in h)) filled ∙ filled-parent-rule t level list room id parent))

    pub parent-type-judged : (u : Table) (uid type : ℕ) (word : List ℕ) → found ≡ parent_type_rule t level id (held_in held) u uid type word → of_outline found ≡ parent_break t (parent_type_rule t level id (parent_of t level) u uid type word)
    unfolding parent_break
    parent-type-judged u uid type word e =
        rw (few t.records list room)
        (ap of_outline (e ∙ ap (λ h. parent_type_rule t level id (held_in h) u uid type word) filled ∙ filled-parent-type-rule t level list room id u uid type word))

    pub tree-parent-judged : (parent : ℕ) → found ≡ tree_parent_rule t id parent (held_in held) → of_outline found ≡ parent_break t (tree_parent_rule t id parent (parent_of t level))
    unfolding parent_break
    tree-parent-judged parent e =
        rw (few t.records list room)
        (ap of_outline (e ∙ ap (λ h. tree_parent_rule t id parent (held_in h)) filled ∙ filled-tree-parents t level list room id parent))

-- ---- Without room
pub parent-left : (t : Table) (list : List ℕ) (found : Outline) → length list ≡ 4096 → parents_have_room t.records list ≡ false → alone 0 ≡ parent_break t found
unfolding parent_break
parent-left t list found l none = rw (many t.records list l none)
