-- `gate_listed::judge_listed` meets its contract: the core judges, and the list gets the entries that stand in the workspace.
use Rattle.std.proofs.Common.{◌∙◌, length}
use Rattle.bundle_layout.specs.Bundle.{file_at}
use Rattle.mark_numbers.specs.Marks.{fresh_marks}
use Rattle.gate_marks.specs.Gate.{marks_of}
use Rattle.gate_calls.specs.Calls.{judgement}
use Rattle.mark_numbers.specs.Marks.{marks_in}
use Rattle.gate_marks.specs.declared.Scope.TheVariants.{Full}
use Rattle.schedule.specs.Schedule.{schedule}
use Rattle.set_entries.specs.Entries.{set_entries}
use Rattle.gate_flat.specs.Listed.{judge_listed}
use Rattle.gate_flat.proofs.Left.{room-there, within}
use Rattle.gate_listed.proofs.Facts.{list-after}
use Rattle.gate_listed.proofs.judge_listed.Goals as goal

pub fill_entries-requires : goal.fill_entries-requires
unfolding judge_listed
fill_entries-requires c = within Full (file_at c.args.bundle.now) c.args.work.now (length c.args.list.now) (judge_listed schedule c.args.bundle.now (length c.args.work.now) (length c.args.list.now) (marks_in c.args.kinds.now c.args.places.now c.args.companions.now)) (room-there schedule (length c.args.work.now) (marks_in c.args.kinds.now c.args.places.now c.args.companions.now) (fresh_marks (marks_of schedule)) (set_entries schedule Full (file_at c.args.bundle.now)) (length c.args.list.now) (judgement schedule c.args.bundle.now)) c.judge_flat-told.ensures.value c.judge_flat-told.ensures.work_after

pub returns : goal.returns
unfolding judge_listed
returns c = (c.judge_flat-told.ensures.value, c.judge_flat-told.ensures.board_after, list-after Full (file_at c.args.bundle.now) c.args.work.now c.args.list.now (judge_listed schedule c.args.bundle.now (length c.args.work.now) (length c.args.list.now) (marks_in c.args.kinds.now c.args.places.now c.args.companions.now)) (room-there schedule (length c.args.work.now) (marks_in c.args.kinds.now c.args.places.now c.args.companions.now) (fresh_marks (marks_of schedule)) (set_entries schedule Full (file_at c.args.bundle.now)) (length c.args.list.now) (judgement schedule c.args.bundle.now)) c.judge_flat-told.ensures.value c.judge_flat-told.ensures.work_after c.fill_entries.ensures.0, c.fill_entries.ensures.1 ∙ c.judge_flat-told.ensures.work_after)
