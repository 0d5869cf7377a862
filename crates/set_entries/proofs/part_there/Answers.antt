-- `set_entries::part_there` meets its contract.
use Rattle.set_entries.specs.Work.{files_in}
use Rattle.set_entries.proofs.part_there.Goals as goal

pub returns-in-Full : goal.returns-in-Full
unfolding files_in
returns-in-Full c = rw c.in-Full.is c.part_at.ensures

pub returns-in-Change : goal.returns-in-Change
unfolding files_in
returns-in-Change c = rw c.in-Change.is c.part_after.ensures

pub returns-in-Mark : goal.returns-in-Mark
unfolding files_in
returns-in-Mark c = rw c.in-Mark.is c.part_at-in-Mark.ensures
