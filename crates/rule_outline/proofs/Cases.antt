-- The outline cases of document 01, "Both sides of each line" (P9 and P10), the error of the trade beside them, and small
-- outlines for marks 79 and 80, by computation. Assumes nothing.
use Prim.Native.Nat.{ℕ}
use mathlib.Core.Path.{◌≡◌, refl}
use mathlib.Core.List.{List, [], ◌∷◌, map}
use Rattle.rule_outline.proofs.Opens.{open-outlines}
use Rattle.rule_cells.specs.Cells.{Table, table}
use Rattle.rule_outline.specs.Outline.{level_of, parent_of, parents_up_to, level_rule, parent_rule, parent_type_rule}
use Rattle.rule_outline.specs.declared.Outline.{Outline}

-- a column of Levels, one digit each, as its text and how many there are
abbrev column : List ℕ × ℕ → Table
column c = table c.0 (0 ∷ 1 ∷ 2 ∷ 3 ∷ 4 ∷ 5 ∷ 6 ∷ 7 ∷ 8 ∷ 9 ∷ []) 2 c.1

-- the parents of its records, and where mark 78 breaks
abbrev read : List ℕ × ℕ → List ℕ × ℕ
read c = (parents_up_to (level_of (column c) 0) c.1, level_rule (column c) 0)

abbrev columns : List (List ℕ × ℕ)
columns =
    (49 ∷ 32 ∷ 50 ∷ 32 ∷ 51 ∷ 32 ∷ 51 ∷ 32 ∷ 50 ∷ [], 5)  -- 1 2 3 3 2
    ∷ (49 ∷ 32 ∷ 51 ∷ [], 2)  -- 1 3
    ∷ (49 ∷ 32 ∷ 49 ∷ [], 2)  -- 1 1
    ∷ (49 ∷ 32 ∷ 51 ∷ 32 ∷ 50 ∷ [], 3)  -- 1 3 2: a broken run stands between, and the first is the parent of the third
    ∷ (50 ∷ 32 ∷ 50 ∷ [], 2)  -- 2 2
    ∷ (49 ∷ 32 ∷ 48 ∷ 32 ∷ 49 ∷ [], 3)  -- 1 0 1
    ∷ ([], 0)  -- none
    ∷ []

abbrev answers : List (List ℕ × ℕ)
answers =
    (0 ∷ 1 ∷ 2 ∷ 2 ∷ 1 ∷ [], 0)
    ∷ (0 ∷ 1 ∷ [], 2)
    ∷ (0 ∷ 0 ∷ [], 0)
    ∷ (0 ∷ 1 ∷ 1 ∷ [], 2)
    ∷ (0 ∷ 0 ∷ [], 1)
    ∷ (0 ∷ 0 ∷ 2 ∷ [], 2)
    ∷ ([], 0)
    ∷ []

pub outlines : map read columns ≡ answers
unfolding open-outlines
outlines = refl

-- ---- Two records, 1 "A" and 2 "B", with "a" behind them, and where the ParentTaskID of each stands; 0 and 0 for null
abbrev outline : ℕ × ℕ × ℕ × ℕ → Table
outline p =
    table (49 ∷ 34 ∷ 65 ∷ 34 ∷ 50 ∷ 34 ∷ 66 ∷ 34 ∷ 34 ∷ 97 ∷ 34 ∷ [])
    (0 ∷ 1 ∷ 1 ∷ 4 ∷ p.0 ∷ p.1 ∷ 4 ∷ 5 ∷ 5 ∷ 8 ∷ p.2 ∷ p.3 ∷ [])
    6
    2

abbrev broken : ℕ → ℕ → Outline
broken r p = record { «record» = r; parent = p }

-- none and "a"; none and "B"; none and none; "a" and "a"
abbrev given : List (ℕ × ℕ × ℕ × ℕ)
given = (0, 0, 8, 11) ∷ (0, 0, 5, 8) ∷ (0, 0, 0, 0) ∷ (8, 11, 8, 11) ∷ []

pub parents-given : map (λ p. parent_rule (outline p) 0 1 2 (parent_of (outline p) 0)) given ≡ broken 0 0 ∷ broken 2 1 ∷ broken 2 1 ∷ broken 1 0 ∷ []
unfolding open-outlines
parents-given = refl

-- a task "a" of type "summary", or of type "a", or no task
abbrev tasks : ℕ × ℕ × ℕ → Table
tasks k = table (34 ∷ 97 ∷ 34 ∷ 34 ∷ 115 ∷ 117 ∷ 109 ∷ 109 ∷ 97 ∷ 114 ∷ 121 ∷ 34 ∷ []) (0 ∷ 3 ∷ k.0 ∷ k.1 ∷ []) 4 k.2

pub parents-typed : map (λ k. parent_type_rule (outline (0, 0, 0, 0)) 0 1 (parent_of (outline (0, 0, 0, 0)) 0) (tasks k) 0 1 (83 ∷ 85 ∷ 77 ∷ 77 ∷ 65 ∷ 82 ∷ 89 ∷ [])) ((3, 12, 1) ∷ (0, 3, 1) ∷ (3, 12, 0) ∷ []) ≡ broken 0 0 ∷ broken 2 1 ∷ broken 2 1 ∷ []
unfolding open-outlines
parents-typed = refl
