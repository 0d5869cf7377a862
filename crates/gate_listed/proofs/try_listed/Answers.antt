-- `gate_listed::try_listed` meets its contract: the core tries the change, and the list gets the entries that stand in the workspace.
use Rattle.std.proofs.Common.{◌∙◌, length}
use Rattle.parts.specs.Files.{new_file}
use Rattle.bundle_layout.specs.Change.{files_after}
use Rattle.gate_calls.specs.Calls.{tried}
use Rattle.mark_numbers.specs.Marks.{marks_in}
use Rattle.gate_marks.specs.declared.Scope.TheVariants.{Change}
use Rattle.schedule.specs.Schedule.{schedule}
use Rattle.set_entries.specs.Entries.{set_entries}
use Rattle.gate_flat.specs.Listed.{try_listed}
use Rattle.gate_flat.proofs.Left.{room-there, within}
use Rattle.gate_listed.proofs.Facts.{list-after}
use Rattle.gate_listed.proofs.try_listed.Goals as goal

pub fill_entries-requires : goal.fill_entries-requires
unfolding try_listed
fill_entries-requires c = within (Change c.args.k) (files_after c.args.bundle.now c.args.k (new_file c.args.present c.args.new.now)) c.args.work.now (length c.args.list.now) (try_listed schedule c.args.bundle.now c.args.k (new_file c.args.present c.args.new.now) (length c.args.work.now) (length c.args.list.now) (marks_in c.args.kinds.now c.args.places.now c.args.companions.now)) (room-there schedule (length c.args.work.now) (marks_in c.args.kinds.now c.args.places.now c.args.companions.now) (marks_in c.args.kinds.now c.args.places.now c.args.companions.now) (set_entries schedule (Change c.args.k) (files_after c.args.bundle.now c.args.k (new_file c.args.present c.args.new.now))) (length c.args.list.now) (tried schedule c.args.bundle.now c.args.k (new_file c.args.present c.args.new.now) (marks_in c.args.kinds.now c.args.places.now c.args.companions.now))) c.try_flat-told.ensures.value c.try_flat-told.ensures.work_after

pub returns : goal.returns
unfolding try_listed
returns c = (c.try_flat-told.ensures.value, c.try_flat-told.ensures.board_after, list-after (Change c.args.k) (files_after c.args.bundle.now c.args.k (new_file c.args.present c.args.new.now)) c.args.work.now c.args.list.now (try_listed schedule c.args.bundle.now c.args.k (new_file c.args.present c.args.new.now) (length c.args.work.now) (length c.args.list.now) (marks_in c.args.kinds.now c.args.places.now c.args.companions.now)) (room-there schedule (length c.args.work.now) (marks_in c.args.kinds.now c.args.places.now c.args.companions.now) (marks_in c.args.kinds.now c.args.places.now c.args.companions.now) (set_entries schedule (Change c.args.k) (files_after c.args.bundle.now c.args.k (new_file c.args.present c.args.new.now))) (length c.args.list.now) (tried schedule c.args.bundle.now c.args.k (new_file c.args.present c.args.new.now) (marks_in c.args.kinds.now c.args.places.now c.args.companions.now))) c.try_flat-told.ensures.value c.try_flat-told.ensures.work_after c.fill_entries.ensures.0, c.fill_entries.ensures.1 ∙ c.try_flat-told.ensures.work_after)
