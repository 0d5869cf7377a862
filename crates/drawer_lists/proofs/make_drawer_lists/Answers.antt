-- `drawer_lists::make_drawer_lists` meets its contract: tried, and made where that is not refused.
-- Assumes nothing.
use Rattle.parts.specs.Files.{new_file}
use Rattle.mark_numbers.specs.Marks.{marks_in}
use Rattle.schedule.specs.Schedule.{schedule}
use Rattle.schedule.proofs.Laws.{files-are}
use Rattle.drawer_lists.proofs.Laws.{made_so, made-not}
use Rattle.drawer_lists.proofs.make_drawer_lists.Goals as goal

pub returns-then-refusal-eq0 : goal.returns-then-refusal-eq0
returns-then-refusal-eq0 c = record { value = c.try_drawer_lists-refusal.ensures.value; board_after = c.try_drawer_lists-refusal.ensures.board_after; d_after = made_so schedule files-are c.args.d.now c.args.k (new_file c.args.present c.args.new.now) (marks_in c.args.kinds.now c.args.places.now c.args.companions.now) c.args.work.now c.try_drawer_lists-refusal.ensures.value c.if-refusal-eq0.true c.change_drawer.ensures.d_after; work_after = c.try_drawer_lists-refusal.ensures.work_after }

pub returns-else-refusal-eq0 : goal.returns-else-refusal-eq0
returns-else-refusal-eq0 c = record { value = c.try_drawer_lists-refusal.ensures.value; board_after = c.try_drawer_lists-refusal.ensures.board_after; d_after = made-not schedule files-are c.args.d.now c.args.k (new_file c.args.present c.args.new.now) (marks_in c.args.kinds.now c.args.places.now c.args.companions.now) c.args.work.now c.try_drawer_lists-refusal.ensures.value c.if-refusal-eq0.false; work_after = c.try_drawer_lists-refusal.ensures.work_after }
