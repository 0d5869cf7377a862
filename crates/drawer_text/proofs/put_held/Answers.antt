-- `drawer_text::put_held` meets its contract.
-- Assumes nothing.
use Rattle.drawer_text.proofs.Puts.{held_none, held-put}
use Rattle.drawer_text.proofs.put_held.Goals as goal

pub returns-then-is_omitted : goal.returns-then-is_omitted
returns-then-is_omitted c = held_none _ _ _ c.is_omitted.ensures c.if-is_omitted.true

pub returns : goal.returns
returns c = held-put _ _ _ c.is_omitted.ensures c.offset_at-offset.ensures c.length_at-size.ensures c.if-is_omitted.false c.put_ended-name.ensures c.put_file_name-behind.ensures c.put_byte-place.ensures c.put_ended-last.ensures c.put_ended.ensures
