-- `drawer_bundles::put_entry` meets its contract: two numbers, one behind the other.
-- Assumes nothing.
use Rattle.bundle.proofs.Laws.{entry-written}
use Rattle.drawer_bundles.proofs.put_entry.Goals as goal

pub returns : goal.returns
returns c = entry-written _ _ _ _ _ _ c.offset_shown.ensures c.put_word.ensures c.put_word-2.ensures
