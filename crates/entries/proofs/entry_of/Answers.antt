-- `entries::entry_of` meets its contract: its four numbers.
use Rattle.std.proofs.Common.{refl}
use Rattle.entries.specs.Entries.{wrapped}
use Rattle.entries.proofs.Laws.{entry-is}
use Rattle.entries.proofs.entry_of.Goals as goal

pub returns : goal.returns
unfolding wrapped
returns c = entry-is _ _ _ _ _ c.cell_in-start.ensures c.cell_in-end.ensures c.key_sum-sum.ensures refl c.saturating_sub.ensures c.saturating_sub-2.ensures refl
