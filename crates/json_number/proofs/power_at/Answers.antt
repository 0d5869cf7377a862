-- `json_number::power_at` meets its contract, by the run of digits.
use Rattle.json_number.proofs.Digits.{carried_none}
use Rattle.json_number.proofs.Parts.{power-empty, power-stands}
use Rattle.json_number.proofs.power_at.Goals as goal

pub returns-then-end-at : goal.returns-then-end-at
returns-then-end-at c = power-empty _ _ _ c.run_from-digits.ensures.0 c.if-end-at.true

pub returns : goal.returns
returns c = power-stands _ _ _ c.run_from-digits.ensures.0 (c.run_from-digits.ensures.2 0 carried_none).0 c.if-end-at.false
