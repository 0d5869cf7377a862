-- `json_number::powered_at` meets its contract: a capped exponent decides as the exponent itself does.
use mathlib.Core.Path.{◌∙◌}
use native.Mathlib.Omega.{arith}
use Rattle.json_number.specs.Number.{exponent_at}
use Rattle.json_number.proofs.Parts.{exponent-bound, exponent-stands, exponent-stops}
use Rattle.json_number.proofs.powered_at.Goals as goal

pub value_of-value-requires : goal.value_of-value-requires
value_of-value-requires c = (
  omega arith,
  omega arith,
  exponent-bound (exponent_at c.args.s.now c.args.at) c.exponent_at-exponent.ensures c.in-Power.is,
)

pub returns-in-Power : goal.returns-in-Power
returns-in-Power c = exponent-stands _ _ _ _ (omega arith) (omega arith) _ c.exponent_at-exponent.ensures c.in-Power.is c.value_of-value.ensures

pub returns-in-NoPower : goal.returns-in-NoPower
returns-in-NoPower c = c.stopped.ensures ∙ exponent-stops _ _ _ _ _ c.exponent_at-exponent.ensures c.in-NoPower.is
