-- `json_date::is_plain_date` meets its contract: an early day between two quotes is a plain date.
use native.Mathlib.Omega.{arith}
use Rattle.json_date.proofs.Plain.{early_plain}
use Rattle.json_date.proofs.is_plain_date.Goals as goal

pub returns-then-is_early_day : goal.returns-then-is_early_day
returns-then-is_early_day c = grind (arith, early_plain)
