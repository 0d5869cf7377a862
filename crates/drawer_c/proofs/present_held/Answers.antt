-- `drawer_c::present_held` meets its contract.
use mathlib.Core.Path.{sym, ◌∙◌}
use Rattle.drawer_c.specs.Calls.{present_held}
use Rattle.drawer_c.proofs.present_held.Goals as goal

pub returns-then-is_omitted : goal.returns-then-is_omitted
unfolding present_held
returns-then-is_omitted c = rw (sym c.is_omitted.ensures ∙ c.if-is_omitted.true)

pub returns : goal.returns
unfolding present_held
returns c = rw (sym c.is_omitted.ensures ∙ c.if-is_omitted.false)
