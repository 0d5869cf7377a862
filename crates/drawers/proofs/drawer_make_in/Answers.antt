-- `drawers::drawer_make_in` meets its contract: the lists are the board's.
-- Assumes nothing.
use Rattle.drawers.proofs.Laws.{drawn-is}
use Rattle.drawers.proofs.drawer_make_in.Goals as goal

pub returns : goal.returns
returns c =
    let e = c.make_drawer_lists-refusal.ensures in
    let whole = drawn-is _ (e.value, (e.board_after, e.d_after)) in
    record { value = whole.0; drawer_after = e.d_after; work_after = e.work_after }
