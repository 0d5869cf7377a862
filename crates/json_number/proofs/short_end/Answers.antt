-- `json_number::short_end` meets its contract: the test of its digits before the point decides the definition.
use mathlib.Core.Path.{sym, ◌∙◌}
use Rattle.json_number.proofs.Short.{short-stands, short_none}
use Rattle.json_number.proofs.short_end.Goals as goal

pub returns-then-is_short : goal.returns-then-is_short
returns-then-is_short c = c.short_behind.ensures ∙ sym (short-stands _ _ c.behind_sign-from.ensures c.digits_end-whole.ensures c.is_short.ensures c.if-is_short.true)

pub returns : goal.returns
returns c = sym (short_none _ _ c.behind_sign-from.ensures c.digits_end-whole.ensures c.is_short.ensures c.if-is_short.false)
