-- For the code's sake alone: whether records come in groups by the key's second field, an ID, and none has the key of
-- another of its group. Of a group of over nine nothing is told.
use Rattle.std.specs.Prelude.{ℕ, zero, suc, ◌+◌, ◌-◌, Bool, true, false, ◌&&◌, leb, eqb}
use Rattle.text_order.specs.declared.Compared.{Compared}
use Rattle.text_order.specs.declared.Compared.TheVariants.{Less, Same, More}
use Rattle.rule_cells.specs.Cells.{Table, first_from}
use Rattle.rule_key.specs.declared.Key.{Key}
use Rattle.rule_key.specs.Key.{same_key}
use Rattle.key_order.specs.Order.{field_order}

-- whether record i is the same as none of the at most eight records before it from `from` on
unfoldable pub apart : (ℕ → ℕ → Bool) → ℕ → ℕ → Bool
apart same from i = leb (i - from) 8 && eqb (first_from (λ j. same j i) (i - from) from) 0

-- whether none of the n records behind record i, whose group starts at `from`, is less than the one before it or the same
-- as one of its group
unfoldable pub grouped_from : (ℕ → ℕ → Compared) → (ℕ → ℕ → Bool) → ℕ → ℕ → ℕ → Bool
grouped_from order same zero from i = true
grouped_from order same (suc n) from i =
    elim (order i (i + 1)) [
      | Less ↦ grouped_from order same n (i + 1) (i + 1)
      | Same ↦ apart same from (i + 1) && grouped_from order same n from (i + 1)
      | More ↦ false
    ]

-- whether so are n records, by the second field of their key
unfoldable pub grouped : Table → Key → ℕ → Bool
grouped t key n =
    eqb key.b_kind 1 && grouped_from (field_order t key.b_kind key.b) (same_key t key) (n - 1) 0 0
