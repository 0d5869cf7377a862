-- `loop_text::put_link` meets its contract: one text behind the other.
-- Assumes nothing.
use Rattle.json_bytes.specs.Ascii.{codes}
use Rattle.loop_text.proofs.Puts.{link-put}
use Rattle.loop_text.proofs.put_link.Goals as goal

pub returns : goal.returns
unfolding codes
returns c = link-put _ _ _ _ c.number_in-r.ensures.0 c.put_text-number.ensures c.put_number-waits.ensures c.put_waits-leads.ensures c.put_leads.ensures
