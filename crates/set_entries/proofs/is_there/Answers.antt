-- `set_entries::is_there` meets its contract.
use mathlib.Core.Path.{ap, ◌∙◌}
use mathlib.Core.Bool.{not}
use Rattle.set_entries.specs.Work.{files_in}
use Rattle.set_entries.proofs.Laws.{there-is}
use Rattle.set_entries.proofs.is_there.Goals as goal

pub returns-in-Full : goal.returns-in-Full
unfolding files_in
returns-in-Full c = rw c.in-Full.is (ap not c.is_omitted.ensures ∙ there-is _ _)

pub returns-in-Change : goal.returns-in-Change
unfolding files_in
returns-in-Change c = rw c.in-Change.is c.is_present_after.ensures

pub returns-in-Mark : goal.returns-in-Mark
unfolding files_in
returns-in-Mark c = rw c.in-Mark.is (ap not c.is_omitted-in-Mark.ensures ∙ there-is _ _)
