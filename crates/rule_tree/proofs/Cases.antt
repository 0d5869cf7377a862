-- Small trees by computation: what document 02, order 9, says of Levels, parents and leaves, and the errors beside it.
-- Assumes nothing.
use Prim.Native.Nat.{ℕ}
use mathlib.Core.Path.{◌≡◌, refl}
use mathlib.Core.Bool.{Bool, true, false}
use mathlib.Core.List.{List, [], ◌∷◌, map}
use Rattle.rule_cells.specs.Cells.{Table, table}
use Rattle.rule_outline.specs.Outline.{level_of, parent_of}
use Rattle.rule_outline.specs.declared.Outline.{Outline}
use Rattle.rule_tree.specs.Tree.{tree_level_rule, tree_parent_rule, has_child, leaf_rule}
use Rattle.rule_tree.proofs.Opens.{open-trees}

-- a column of Levels, one digit each, as its text and how many there are
abbrev column : List ℕ × ℕ → Table
column c = table c.0 (0 ∷ 1 ∷ 2 ∷ 3 ∷ 4 ∷ 5 ∷ 6 ∷ 7 ∷ 8 ∷ 9 ∷ []) 2 c.1

-- where its Levels break, and which of the first three records have a child
abbrev read : List ℕ × ℕ → ℕ × Bool × Bool × Bool
read c = (
  tree_level_rule (column c) 0,
  has_child (level_of (column c) 0) c.1 0,
  has_child (level_of (column c) 0) c.1 1,
  has_child (level_of (column c) 0) c.1 2,
)

abbrev columns : List (List ℕ × ℕ)
columns =
    (49 ∷ 32 ∷ 50 ∷ 32 ∷ 51 ∷ 32 ∷ 51 ∷ 32 ∷ 50 ∷ [], 5)  -- 1 2 3 3 2
    ∷ (49 ∷ 32 ∷ 51 ∷ [], 2)  -- 1 3: a jump, and the second is a child all the same
    ∷ (49 ∷ 32 ∷ 49 ∷ [], 2)  -- 1 1: a second Level 1
    ∷ (50 ∷ [], 1)  -- 2
    ∷ (49 ∷ 32 ∷ 50 ∷ 32 ∷ 49 ∷ [], 3)  -- 1 2 1
    ∷ (48 ∷ 32 ∷ 49 ∷ [], 2)  -- 0 1
    ∷ ([], 0)  -- none
    ∷ []

abbrev answers : List (ℕ × Bool × Bool × Bool)
answers =
    (0, true, true, false)
    ∷ (2, true, false, false)
    ∷ (2, false, false, false)
    ∷ (1, false, false, false)
    ∷ (3, true, false, false)
    ∷ (1, true, false, false)
    ∷ (0, false, false, false)
    ∷ []

pub levels-and-children : map read columns ≡ answers
unfolding open-trees
levels-and-children = refl

-- ---- Three records of Levels 1, 1 and 2 under "A", "B" and "a": where the ParentID of each stands, 0 and 0 for null
abbrev tree : ℕ × ℕ × ℕ × ℕ → Table
tree p =
    table (49 ∷ 34 ∷ 65 ∷ 34 ∷ 49 ∷ 34 ∷ 66 ∷ 34 ∷ 50 ∷ 34 ∷ 97 ∷ 34 ∷ [])
    (0 ∷ 1 ∷ 1 ∷ 4 ∷ 0 ∷ 0 ∷ 4 ∷ 5 ∷ 5 ∷ 8 ∷ p.0 ∷ p.1 ∷ 8 ∷ 9 ∷ 9 ∷ 12 ∷ p.2 ∷ p.3 ∷ [])
    6
    3

abbrev broken : ℕ → ℕ → Outline
broken r p = record { «record» = r; parent = p }

-- a second Level 1 has no parent and breaks the rule, with or without a ParentID
pub parents-by-place : map (λ p. tree_parent_rule (tree p) 1 2 (parent_of (tree p) 0)) ((0, 0, 5, 8) ∷ (1, 4, 5, 8) ∷ []) ≡ broken 2 0 ∷ broken 2 0 ∷ []
unfolding open-trees
parents-by-place = refl

-- ---- Accounts that name "a", "B" and "x" of that tree: of two elements "A" and "a" neither has a child, and "B" has one
abbrev accounts : List ℕ → Table
accounts cells = table (34 ∷ 97 ∷ 34 ∷ 34 ∷ 66 ∷ 34 ∷ 34 ∷ 120 ∷ 34 ∷ []) cells 2 1

pub leaves : map (λ cells. leaf_rule (accounts cells) 0 (tree (0, 0, 0, 0)) 1 0) ((0 ∷ 3 ∷ []) ∷ (3 ∷ 6 ∷ []) ∷ (6 ∷ 9 ∷ []) ∷ []) ≡ 0 ∷ 1 ∷ 0 ∷ []
unfolding open-trees
leaves = refl

-- two elements of one ID, of which the first is a leaf and the second is not
abbrev twice : Table
twice =
    table (49 ∷ 34 ∷ 97 ∷ 34 ∷ 49 ∷ 34 ∷ 65 ∷ 34 ∷ 50 ∷ 34 ∷ 66 ∷ 34 ∷ [])
    (0 ∷ 1 ∷ 1 ∷ 4 ∷ 4 ∷ 5 ∷ 5 ∷ 8 ∷ 8 ∷ 9 ∷ 9 ∷ 12 ∷ [])
    4
    3

pub any-match : leaf_rule (accounts (0 ∷ 3 ∷ [])) 0 twice 1 0 ≡ 1
unfolding open-trees
any-match = refl
