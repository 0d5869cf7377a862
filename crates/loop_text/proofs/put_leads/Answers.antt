-- `loop_text::put_leads` meets its contract: back to the first record, or on to the next.
-- Assumes nothing.
use mathlib.Core.Path.{sym, ◌∙◌}
use Rattle.json_bytes.specs.Ascii.{codes}
use Rattle.loop_text.proofs.Puts.{back-put, on-put}
use Rattle.loop_text.proofs.put_leads.Goals as goal

pub returns-then-is_last : goal.returns-then-is_last
unfolding codes
returns-then-is_last c = back-put _ _ _ (sym c.is_last.ensures ∙ c.if-is_last.true) c.number_in.ensures.0 c.put_text-first.ensures c.put_number-advice.ensures c.put_text.ensures

pub returns : goal.returns
unfolding codes
returns c = on-put _ _ _ (sym c.is_last.ensures ∙ c.if-is_last.false) c.number_in-2.ensures.0 c.put_text-next.ensures c.put_number-end.ensures c.put_text-2.ensures
