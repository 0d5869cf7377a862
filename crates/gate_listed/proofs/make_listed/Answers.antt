-- `gate_listed::make_listed` meets its contract: the core makes the change, and the list gets the entries that stand in the workspace.
use Rattle.std.proofs.Common.{◌∙◌, length}
use Rattle.parts.specs.Files.{new_file}
use Rattle.bundle_layout.specs.Change.{files_after}
use Rattle.gate_calls.specs.Calls.{change_made}
use Rattle.mark_numbers.specs.Marks.{marks_in}
use Rattle.gate_marks.specs.declared.Scope.TheVariants.{Change}
use Rattle.schedule.specs.Schedule.{schedule}
use Rattle.set_entries.specs.Entries.{set_entries}
use Rattle.gate_flat.specs.Listed.{make_listed}
use Rattle.gate_flat.proofs.Left.{room-there, within}
use Rattle.gate_listed.proofs.Facts.{list-after}
use Rattle.gate_listed.proofs.make_listed.Goals as goal

pub fill_entries-requires : goal.fill_entries-requires
unfolding make_listed
fill_entries-requires c = within (Change c.args.k) (files_after c.args.bundle.now c.args.k (new_file c.args.present c.args.new.now)) c.args.work.now (length c.args.list.now) (make_listed schedule c.args.bundle.now c.args.k (new_file c.args.present c.args.new.now) (length c.args.out.now) (length c.args.work.now) (length c.args.list.now) (marks_in c.args.kinds.now c.args.places.now c.args.companions.now)) (room-there schedule (length c.args.work.now) (marks_in c.args.kinds.now c.args.places.now c.args.companions.now) (marks_in c.args.kinds.now c.args.places.now c.args.companions.now) (set_entries schedule (Change c.args.k) (files_after c.args.bundle.now c.args.k (new_file c.args.present c.args.new.now))) (length c.args.list.now) (change_made schedule c.args.bundle.now c.args.k (new_file c.args.present c.args.new.now) (marks_in c.args.kinds.now c.args.places.now c.args.companions.now) (length c.args.out.now))) c.make_flat-told.ensures.value c.make_flat-told.ensures.work_after

pub returns : goal.returns
unfolding make_listed
returns c = (c.make_flat-told.ensures.value, c.make_flat-told.ensures.board_after, c.make_flat-told.ensures.out_after, list-after (Change c.args.k) (files_after c.args.bundle.now c.args.k (new_file c.args.present c.args.new.now)) c.args.work.now c.args.list.now (make_listed schedule c.args.bundle.now c.args.k (new_file c.args.present c.args.new.now) (length c.args.out.now) (length c.args.work.now) (length c.args.list.now) (marks_in c.args.kinds.now c.args.places.now c.args.companions.now)) (room-there schedule (length c.args.work.now) (marks_in c.args.kinds.now c.args.places.now c.args.companions.now) (marks_in c.args.kinds.now c.args.places.now c.args.companions.now) (set_entries schedule (Change c.args.k) (files_after c.args.bundle.now c.args.k (new_file c.args.present c.args.new.now))) (length c.args.list.now) (change_made schedule c.args.bundle.now c.args.k (new_file c.args.present c.args.new.now) (marks_in c.args.kinds.now c.args.places.now c.args.companions.now) (length c.args.out.now))) c.make_flat-told.ensures.value c.make_flat-told.ensures.work_after c.fill_entries.ensures.0, c.fill_entries.ensures.1 ∙ c.make_flat-told.ensures.work_after)
