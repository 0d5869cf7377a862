-- `reason_text::own_slots` meets its contract.
use Rattle.reason_text.proofs.Lines.{own_is}
use Rattle.reason_text.proofs.own_slots.Goals as goal

pub returns : goal.returns
returns c = own_is _ _ _ c.part_at.ensures c.line_and_column-spot.ensures
