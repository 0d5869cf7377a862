-- `json_date::date_at` meets its contract: a date as it stands is the one, any other string is decoded.
use mathlib.Core.Path.{sym, ◌∙◌}
use Rattle.json_date.proofs.Collect.{none-there}
use Rattle.json_date.proofs.date_at.Goals as goal

pub returns-then-byte_at-ne34 : goal.returns-then-byte_at-ne34
returns-then-byte_at-ne34 c = sym (none-there _ _ (λ e. c.if-byte_at-ne34.true (c.byte_at.ensures ∙ e)))
