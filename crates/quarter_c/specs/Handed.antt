-- For the code's sake: a quarter from its parts, as a caller in another language holds them.
use Rattle.std.specs.Prelude.{ℕ, Bool, List, ℤ}
use Rattle.quarter.specs.declared.Quarter.{Quarter}

unfoldable pub handed : List ℤ → ℕ → List Bool → Quarter
handed totals sets left = record { totals = totals; sets = sets; left = left }
