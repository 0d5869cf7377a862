-- A tree of elements by a column of Levels: the rules of document 000 on the WBS, the OBS and the control accounts. Its 2.1.7: "The
-- hierarchical structure of the WBS and OBS is determined based on the level and sequence of the elements reported." What a parent
-- is, rule_outline says for any column of Levels: "the nearest preceding element with a reported level less than that of the given
-- element". Records are counted from 0, and a parent, as a place of a mark, from 1, with 0 for none.
use Rattle.std.specs.Prelude.{ℕ, zero, suc, ◌+◌, ◌-◌, Bool, true, cond, not, ◌&&◌, ltb, leb, eqb}
use Rattle.rule_cells.specs.Cells.{Table, is_given, same_text, first_that}
use Rattle.rule_outline.specs.Outline.{level_one, level_of, parent_by, some_of}
use Rattle.rule_outline.specs.declared.Outline.{Outline}

-- ---- Levels. 2.2.10 and 2.2.11: "The first record must have Level equal to 1. All other records must have Level greater than 1."
unfoldable pub first_breaks : ℕ → Bool
first_breaks at = not (eqb at level_one)

-- and 2.1.7: "a level that is no more than 1 greater than the level of the preceding element"
unfoldable pub next_breaks : ℕ → ℕ → Bool
next_breaks before at = not (ltb level_one at && leb at (before + 1))

unfoldable pub tree_level_breaks : (ℕ → ℕ) → ℕ → Bool
tree_level_breaks levels zero = first_breaks (levels 0)
tree_level_breaks levels (suc r) = next_breaks (levels r) (levels (suc r))

unfoldable pub tree_level_rule : Table → ℕ → ℕ
tree_level_rule t level = first_that (tree_level_breaks (level_of t level)) t.records

-- ---- Parents. "The first record must have a null ParentID. All other records must have a ParentID equal to the ID of the parent
-- record determined by the hierarchical structure": broken too where there is no such record
unfoldable pub tree_parent_breaks : Table → ℕ → ℕ → (ℕ → ℕ) → ℕ → Bool
tree_parent_breaks t id parent parents r =
    cond (eqb r 0) (is_given t.cells t.width r parent)
    (cond (eqb (parents r) 0) true
    (not (is_given t.cells t.width r parent && same_text t r parent t (parents r - 1) id)))

-- document 02, order 5: the breaking record, and "the parent's record, or 0 if there is none"
unfoldable pub with_parent : (ℕ → ℕ) → ℕ → Outline
with_parent parents zero = record { «record» = 0; parent = 0 }
with_parent parents (suc r) = record { «record» = suc r; parent = parents r }

unfoldable pub tree_parent_rule : Table → ℕ → ℕ → (ℕ → ℕ) → Outline
tree_parent_rule t id parent parents = with_parent parents (first_that (tree_parent_breaks t id parent parents) t.records)

-- ---- Leaves. 2.2.12: "WBSElementID and OBSElementID must each refer to an element with no child elements"
-- element q has a child: it is the parent of one of the n elements
unfoldable pub has_child : (ℕ → ℕ) → ℕ → ℕ → Bool
has_child levels n q = some_of (λ (c : ℕ). eqb (parent_by levels c) (suc q)) n

-- element q of table u has the ID in field k of record r, and a child
unfoldable pub names_a_parent : Table → ℕ → ℕ → Table → ℕ → ℕ → ℕ → Bool
names_a_parent t r k u id level q = same_text t r k u q id && has_child (level_of u level) u.records q

-- document 02, order 9: "A leaf rule is broken if a matching element has a child by level and sequence; with no match it holds."
unfoldable pub leaf_breaks : Table → ℕ → Table → ℕ → ℕ → ℕ → Bool
leaf_breaks t k u id level r = is_given t.cells t.width r k && some_of (names_a_parent t r k u id level) u.records

unfoldable pub leaf_rule : Table → ℕ → Table → ℕ → ℕ → ℕ
leaf_rule t k u id level = first_that (leaf_breaks t k u id level) t.records
