-- `both_desks::answer_lists` meets its contract: each desk is answered by its own things, and the length is that of the bundle
-- that is written.
-- Assumes nothing.
use native.Mathlib.Omega.{arith}
use Rattle.parts.specs.Files.{new_file}
use Rattle.mark_numbers.specs.Marks.{marks_in}
use Rattle.schedule.specs.Schedule.{schedule}
use Rattle.schedule.proofs.Laws.{files-are}
use Rattle.both_desks.proofs.Laws.{writes, both-answered}
use Rattle.both_desks.proofs.answer_lists.Goals as goal

pub written_length-size-requires : goal.written_length-size-requires
written_length-size-requires c = λ t. writes schedule files-are c.args.a.now c.args.b.now c.args.shared.now (marks_in c.args.kinds_a.now c.args.places_a.now c.args.companions_a.now) (marks_in c.args.kinds_b.now c.args.places_b.now c.args.companions_b.now) c.args.whose c.args.k (new_file c.args.present c.args.new.now) c.args.room c.args.work.now c.seen_by_a.ensures c.seen_by_b.ensures c.desk_lists-of_a.new.work (omega (arith, c.desk_lists-of_a.auto)) c.desk_lists-of_a.ensures.value c.desk_lists-of_b.ensures.value c.is_written-written.ensures t c.bundle_changed.ensures

pub returns : goal.returns
returns c = let whole = both-answered schedule files-are c.args.a.now c.args.b.now c.args.shared.now (marks_in c.args.kinds_a.now c.args.places_a.now c.args.companions_a.now) (marks_in c.args.kinds_b.now c.args.places_b.now c.args.companions_b.now) c.args.whose c.args.k (new_file c.args.present c.args.new.now) c.args.room c.args.work.now c.seen_by_a.ensures c.seen_by_b.ensures c.desk_lists-of_a.new.work (omega (arith, c.desk_lists-of_a.auto)) c.desk_lists-of_a.ensures.value c.desk_lists-of_b.ensures.value c.is_written-written.ensures c.bundle_changed.ensures c.written_length-size.ensures c.desk_lists-of_a.ensures.board_after c.desk_lists-of_b.ensures.board_after c.desk_lists-of_a.ensures.work_after c.desk_lists-of_b.ensures.work_after in record { value = whole.0; board_a_after = whole.1.0; board_b_after = whole.1.1.0; work_after = whole.1.1.1 }
