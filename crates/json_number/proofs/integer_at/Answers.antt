-- `json_number::integer_at` meets its contract: a digit that stands alone is its own magnitude, and any other number is read in full.
use mathlib.Core.Path.{ap, ◌∙◌}
use Rattle.json_number.specs.Number.{integer_of}
use Rattle.json_number.specs.declared.Number.{Number}
use Rattle.json_number.proofs.Alone.{digit-integer}
use Rattle.json_number.proofs.integer_at.Goals as goal

pub returns-then-digit-lt10 : goal.returns-then-digit-lt10
returns-then-digit-lt10 c = digit-integer _ _ c.one_digit-digit.ensures c.if-digit-lt10.true

pub returns : goal.returns
returns c = c.integer_of.ensures ∙ ap (λ (v : Number). integer_of v.value) c.number_at-value.ensures
