-- For the code's sake alone: whether each record is less than the next, by some order.
use Rattle.std.specs.Prelude.{ℕ, ◌+◌, ◌-◌, Bool, true, false, eqb}
use Rattle.text_order.specs.declared.Compared.{Compared}
use Rattle.text_order.specs.declared.Compared.TheVariants.{Less, Same, More}
use Rattle.rule_cells.specs.Cells.{first_that}

unfoldable pub is_not_less : Compared → Bool
is_not_less Less = false
is_not_less Same = true
is_not_less More = true

-- whether record i is not less than the next
unfoldable pub no_rise : (ℕ → ℕ → Compared) → ℕ → Bool
no_rise order i = is_not_less (order i (i + 1))

-- whether each of n records but the last is less than the next
unfoldable pub ascending : (ℕ → ℕ → Compared) → ℕ → Bool
ascending order n = eqb (first_that (no_rise order) (n - 1)) 0
