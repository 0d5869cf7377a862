-- `drawers::drawer_try_in` meets its contract: the lists are the board's.
-- Assumes nothing.
use Rattle.drawers.proofs.Laws.{drawn-is}
use Rattle.drawers.proofs.drawer_try_in.Goals as goal

pub returns : goal.returns
returns c = let whole = drawn-is _ (c.try_drawer_lists-refusal.ensures.value, (c.try_drawer_lists-refusal.ensures.board_after, c.try_drawer_lists-refusal.ensures.work_after)) in record { value = whole.0; work_after = whole.1 }
