-- `both_desks::change_lists` meets its contract: the answers are those of `answer_lists`, and the new bundle is written where it
-- has a length.
-- Assumes nothing.
use lib.ListN.{length}
use Rattle.parts.specs.Files.{new_file}
use Rattle.mark_numbers.specs.Marks.{marks_in}
use Rattle.schedule.specs.Schedule.{schedule}
use Rattle.schedule.proofs.Laws.{files-are}
use Rattle.both_desks.proofs.Laws.{written_out}
use Rattle.both_desks.proofs.change_lists.Goals as goal

pub returns : goal.returns
returns c = record { value = c.answer_lists-answer.ensures.value; board_a_after = c.answer_lists-answer.ensures.board_a_after; board_b_after = c.answer_lists-answer.ensures.board_b_after; out_after = written_out schedule files-are c.args.a.now c.args.b.now c.args.shared.now (marks_in c.args.kinds_a.now c.args.places_a.now c.args.companions_a.now) (marks_in c.args.kinds_b.now c.args.places_b.now c.args.companions_b.now) c.args.whose c.args.k (new_file c.args.present c.args.new.now) (length c.args.work.now) c.args.out.now c.answer_lists-answer.ensures.value c.bundle_changed.ensures c.write_bundle.ensures; work_after = c.answer_lists-answer.ensures.work_after }
