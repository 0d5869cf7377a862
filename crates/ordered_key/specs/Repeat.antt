-- For the code's sake alone: of the records in a list, the least that has the sum and the key of the record just before it
-- there.
use Rattle.std.specs.Prelude.{ℕ, zero, suc, ◌-◌, Bool, cond, ◌&&◌, List, [], ◌∷◌, get_or, ltb, eqb}
use Rattle.rule_cells.specs.Cells.{Table}
use Rattle.rule_key.specs.declared.Key.{Key}
use Rattle.rule_key.specs.declared.KeyBreak.{KeyBreak}
use Rattle.rule_key.specs.Key.{same_key, earliest}

-- whether two records have one sum and one key
unfoldable pub same_sum_and_key : Table → Key → List ℕ → ℕ → ℕ → Bool
same_sum_and_key t key sums p r = eqb (get_or sums p 0) (get_or sums r 0) && same_key t key p r

-- the lesser of two records, both counted from 1; 0 stands for none
unfoldable pub lesser : ℕ → ℕ → ℕ
lesser zero b = b
lesser (suc a) zero = suc a
lesser (suc a) (suc b) = cond (ltb a b) (suc a) (suc b)

-- record r, counted from 1, if it is the same as record p, and 0 if not
unfoldable pub repeat_of : (ℕ → ℕ → Bool) → ℕ → ℕ → ℕ
repeat_of same p r = cond (same p r) (suc r) 0

-- of the records in a list, the least that is the same as the one just before it, counted from 1; 0 for none
unfoldable pub least_repeat : (ℕ → ℕ → Bool) → List ℕ → ℕ
least_repeat same [] = 0
least_repeat same (p ∷ []) = 0
least_repeat same (p ∷ r ∷ rest) = lesser (repeat_of same p r) (least_repeat same (r ∷ rest))

-- what the rule answers where this record, counted from 1, is the first that breaks it
unfoldable pub break_at : Table → Key → ℕ → KeyBreak
break_at t key first = record { «record» = first; same = earliest t key (first - 1) }
