-- `json_number::integer_of` meets its contract, by cases on the value.
use mathlib.Core.Path.{sym, ap, ◌∙◌}
use Rattle.json_number.specs.Number.{integer_of}
use Rattle.json_number.proofs.integer_of.Goals as goal

pub returns-in-Fits : goal.returns-in-Fits
unfolding integer_of
returns-in-Fits c = c.whole_of.ensures ∙ ap integer_of (sym c.in-Fits.is)

pub returns-in-Beyond : goal.returns-in-Beyond
unfolding integer_of
returns-in-Beyond c = ap integer_of (sym c.in-Beyond.is)
