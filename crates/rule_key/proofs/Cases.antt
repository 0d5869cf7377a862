-- Cases P1 and P2 of document 01 as keys, and keys of one to three fields, computed from the definitions.
-- Assumes nothing.
use Prim.Native.Nat.{ℕ}
use mathlib.Core.Path.{◌≡◌, refl}
use mathlib.Core.List.{List, [], ◌∷◌, map}
use Rattle.rule_key.proofs.Opens.{open-keys}
use Rattle.rule_cells.specs.Cells.{table}
use Rattle.rule_key.specs.declared.Key.{Key}
use Rattle.rule_key.specs.Key.{key_rule}

abbrev bytes : List ℕ
bytes =
    34 ∷ 69 ∷ 78 ∷ 71 ∷ 45 ∷ 48 ∷ 49 ∷ 34  -- "ENG-01"
    ∷ 110 ∷ 117 ∷ 108 ∷ 108  -- null
    ∷ 34 ∷ 120 ∷ 34  -- "x"
    ∷ 48 ∷ 46 ∷ 48  -- 0.0
    ∷ 34 ∷ 101 ∷ 110 ∷ 103 ∷ 45 ∷ 48 ∷ 49 ∷ 34  -- "eng-01"
    ∷ 49  -- 1
    ∷ 34 ∷ 50 ∷ 48 ∷ 50 ∷ 52 ∷ 45 ∷ 48 ∷ 50 ∷ 45 ∷ 50 ∷ 57 ∷ 34  -- "2024-02-29"
    ∷ 34 ∷ 50 ∷ 48 ∷ 50 ∷ 52 ∷ 45 ∷ 48 ∷ 51 ∷ 45 ∷ 48 ∷ 49 ∷ 34  -- "2024-03-01"
    ∷ []

-- an ID, an Ordinal and a Date: `ENG-01`, null, the first day; `x`, 0.0, that day; `eng-01`, 1, that day; and `ENG-01`,
-- 0.0, the other day
abbrev cells : List ℕ
cells =
    0 ∷ 8 ∷ 8 ∷ 0 ∷ 27 ∷ 39
    ∷ 12 ∷ 15 ∷ 15 ∷ 18 ∷ 27 ∷ 39
    ∷ 18 ∷ 26 ∷ 26 ∷ 27 ∷ 27 ∷ 39
    ∷ 0 ∷ 8 ∷ 15 ∷ 18 ∷ 39 ∷ 51
    ∷ []

abbrev key : ℕ → ℕ → ℕ → Key
key id ordinal date = record { a = 0; a_kind = id; b = 1; b_kind = ordinal; c = 2; c_kind = date }

abbrev answer : Key → ℕ × ℕ
answer k = ((key_rule (table bytes cells 6 4) k).«record», (key_rule (table bytes cells 6 4) k).same)

-- by the ID, the Ordinal, the Date, the first two, and all three
pub keys : map answer (key 1 0 0 ∷ key 0 2 0 ∷ key 0 0 3 ∷ key 1 2 0 ∷ key 1 2 3 ∷ []) ≡ ((3, 1) ∷ (2, 1) ∷ (2, 1) ∷ (4, 1) ∷ (0, 0) ∷ [])
unfolding open-keys
keys = refl
