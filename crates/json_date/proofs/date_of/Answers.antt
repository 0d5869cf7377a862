-- `json_date::date_of` meets its contract: the form gives the digits that are read, and the calendar decides.
use native.Mathlib.Omega.{arith}
use mathlib.Core.Path.{sym, ◌∙◌}
use Rattle.json_date.proofs.Laws.{Form, form, no-form, is-date, no-day}
use Rattle.json_date.proofs.date_of.Goals as goal
use Rattle.json_date.proofs.date_of.Goals.{Then-has_form}

-- what the form gives where it was found
formed : (c : Then-has_form) → Form c.args.c.now
formed c = form _ (sym c.has_form.ensures ∙ c.if-has_form.true)

pub two_at-requires : goal.two_at-requires
two_at-requires c = (omega (arith, (formed c).ten), (formed c).century)

pub two_at-requires-then-has_form : goal.two_at-requires-then-has_form
two_at-requires-then-has_form c = (omega (arith, (formed (goal.at.two_at-requires-then-has_form c).Then-has_form).ten), (formed (goal.at.two_at-requires-then-has_form c).Then-has_form).year)

pub two_at-month-requires : goal.two_at-month-requires
two_at-month-requires c = (omega (arith, (formed (goal.at.two_at-month-requires c).Then-has_form).ten), (formed (goal.at.two_at-month-requires c).Then-has_form).month)

pub two_at-day-requires : goal.two_at-day-requires
two_at-day-requires c = (omega (arith, (formed (goal.at.two_at-day-requires c).Then-has_form).ten), (formed (goal.at.two_at-day-requires c).Then-has_form).day)

pub returns-then-is_day : goal.returns-then-is_day
returns-then-is_day c = sym (is-date _ _ _ _ _ c.two_at.ensures.0 c.two_at-then-has_form.ensures.0 c.two_at-month.ensures.0 c.two_at-day.ensures.0 (sym c.has_form.ensures ∙ c.if-has_form.true) (sym c.is_day.ensures ∙ c.if-is_day.true))

pub returns-else-is_day : goal.returns-else-is_day
returns-else-is_day c = sym (no-day _ _ _ _ _ c.two_at.ensures.0 c.two_at-then-has_form.ensures.0 c.two_at-month.ensures.0 c.two_at-day.ensures.0 (sym c.has_form.ensures ∙ c.if-has_form.true) (sym c.is_day.ensures ∙ c.if-is_day.false))

pub returns-else-has_form : goal.returns-else-has_form
returns-else-has_form c = sym (no-form _ (sym c.has_form.ensures ∙ c.if-has_form.false))
