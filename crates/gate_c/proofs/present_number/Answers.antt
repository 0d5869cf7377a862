-- `gate_c::present_number` meets its contract.
use mathlib.Core.Path.{sym, ◌∙◌}
use Rattle.gate_c.specs.Calls.{present_number}
use Rattle.gate_c.proofs.present_number.Goals as goal

pub returns-then-is_omitted : goal.returns-then-is_omitted
unfolding present_number
returns-then-is_omitted c = rw (sym c.is_omitted.ensures ∙ c.if-is_omitted.true)

pub returns : goal.returns
unfolding present_number
returns c = rw (sym c.is_omitted.ensures ∙ c.if-is_omitted.false)
