-- `reason_text::reason_of` meets its contract: the workspace is room enough.
use Rattle.reason_text.proofs.Whole.{told-in-room}
use Rattle.reason_text.proofs.reason_of.Goals as goal

pub returns : goal.returns
returns c = told-in-room _ c.requires _ _ c.reason_lists.ensures.value
