-- For the code's sake alone: the sum of a key, made of each ID that it starts with. The sums of order 7's own entries are
-- those of the first field alone.
use Rattle.std.specs.Prelude.{ℕ, cond, List, eqb}
use Rattle.mark_numbers.specs.Marks.{list_of}
use Rattle.key_sum.specs.Sum.{sum_with}
use Rattle.rule_cells.specs.Cells.{Table}
use Rattle.rule_key.specs.declared.Key.{Key}
use Rattle.key_order.specs.Order.{field_sum}

-- of record i: the sum of the key's first field, and where the second is an ID too 31 times that and the sum of it
unfoldable pub key_sum_of : Table → Key → ℕ → ℕ
key_sum_of t key i =
    cond (eqb key.b_kind 1) (sum_with (field_sum t key.a i) (field_sum t key.b i)) (field_sum t key.a i)

-- of records 0 to n - 1
abbrev pub key_sums : Table → Key → ℕ → List ℕ
key_sums t key n = list_of (key_sum_of t key) n
