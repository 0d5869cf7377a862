-- `loop_text::put_id` meets its contract.
-- Assumes nothing.
use Rattle.loop_text.proofs.Puts.{id-put}
use Rattle.loop_text.proofs.put_id.Goals as goal

pub returns : goal.returns
returns c = id-put _ _ _ _ _ c.saturating_sub-row.ensures c.cell_at-start.ensures c.cell_at-end.ensures c.part.ensures c.put_value.ensures
