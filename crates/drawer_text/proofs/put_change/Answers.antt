-- `drawer_text::put_change` meets its contract.
-- Assumes nothing.
use Rattle.drawer_text.proofs.Puts.{change-put}
use Rattle.drawer_text.proofs.put_change.Goals as goal

pub returns : goal.returns
returns c = change-put _ _ _ c.put_held-free.ensures c.put_free.ensures
