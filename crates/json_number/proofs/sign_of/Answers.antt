-- `json_number::sign_of` meets its contract, by cases on the value.
use mathlib.Core.Path.{sym, ap, ◌∙◌}
use Rattle.json_number.specs.Number.{sign_of}
use Rattle.json_number.proofs.Scale.{sign_zero, sign_below, sign_above}
use Rattle.json_number.proofs.sign_of.Goals as goal

pub returns-then-c-eq0 : goal.returns-then-c-eq0
returns-then-c-eq0 c = sym (ap sign_of c.in-Fits.is ∙ sign_zero _ _ _ c.if-c-eq0.true)

pub returns-then-negative : goal.returns-then-negative
returns-then-negative c = sym (ap sign_of c.in-Fits.is ∙ sign_below _ _ _ c.if-c-eq0.false c.if-negative.true)

pub returns-else-negative : goal.returns-else-negative
returns-else-negative c = sym (ap sign_of c.in-Fits.is ∙ sign_above _ _ _ c.if-c-eq0.false c.if-negative.false)

pub returns-in-Beyond : goal.returns-in-Beyond
unfolding sign_of
returns-in-Beyond c = ap sign_of (sym c.in-Beyond.is)
