-- `json_number::several_at` meets its contract: a capped c decides as c itself does.
use mathlib.Core.Path.{◌∙◌}
use Rattle.json_number.proofs.Places.{counts-room}
use Rattle.json_number.proofs.Parts.{coefficient-stands, coefficient-stops}
use Rattle.json_number.proofs.several_at.Goals as goal

pub powered_at-requires : goal.powered_at-requires
powered_at-requires c = counts-room c.args.s.now _ c.coefficient_at-digits.ensures c.in-Digits.is

pub returns-in-Digits : goal.returns-in-Digits
returns-in-Digits c = c.powered_at.ensures ∙ coefficient-stands _ _ _ c.coefficient_at-digits.ensures c.in-Digits.is

pub returns-in-NoDigit : goal.returns-in-NoDigit
returns-in-NoDigit c = c.stopped.ensures ∙ coefficient-stops c.args.s.now _ _ c.coefficient_at-digits.ensures c.in-NoDigit.is
