-- `listed_c::knotsaddle_listed_make` meets its contract: with a fault of its own it leaves everything as it is.
use lib.ListN.{length}
use Rattle.mark_numbers.specs.Marks.{marks_in}
use Rattle.schedule.specs.Schedule.{schedule}
use Rattle.gate_flat.specs.Listed.{make_listed}
use Rattle.listed_numbers.specs.Numbers.{places_in}
use Rattle.listed_c.specs.Calls.{file_handed, make_list_called}
use Rattle.listed_c.proofs.Laws.{ill, well, output-left}
use Rattle.listed_c.proofs.knotsaddle_listed_make.Goals as goal

pub returns-then-present-gt1 : goal.returns-then-present-gt1
unfolding make_list_called
returns-then-present-gt1 c = let w = ill c.args.bundle.now c.args.file c.args.present c.args.new_bytes.now c.args.list.now c.args.work.now (marks_in c.args.kinds.now c.args.places.now c.args.companions.now) (make_listed schedule c.args.bundle.now c.args.file (file_handed c.args.present c.args.new_bytes.now) (length c.args.out.now) (length c.args.work.now) (places_in c.args.list.now) (marks_in c.args.kinds.now c.args.places.now c.args.companions.now)) c.if-present-gt1.true in
    record { value = w.0; board_after = w.1.0; out_after = (output-left c.args.bundle.now c.args.file c.args.present c.args.new_bytes.now c.args.list.now c.args.work.now (marks_in c.args.kinds.now c.args.places.now c.args.companions.now) c.args.out.now); list_after = w.1.1.0; entries_after = w.1.1.1.0; size_after = w.1.1.1.1.0; work_after = w.1.1.1.1.1 }

pub returns : goal.returns
unfolding make_list_called
returns c = let w = well c.args.bundle.now c.args.file c.args.present c.args.new_bytes.now c.args.list.now c.args.work.now (marks_in c.args.kinds.now c.args.places.now c.args.companions.now) (make_listed schedule c.args.bundle.now c.args.file (file_handed c.args.present c.args.new_bytes.now) (length c.args.out.now) (length c.args.work.now) (places_in c.args.list.now) (marks_in c.args.kinds.now c.args.places.now c.args.companions.now)) c.if-present-gt1.false c.make_numbers-told.ensures.value c.make_numbers-told.ensures.board_after c.make_numbers-told.ensures.list_after c.make_numbers-told.ensures.work_after in
    record { value = w.0; board_after = w.1.0; out_after = c.make_numbers-told.ensures.out_after; list_after = w.1.1.0; entries_after = w.1.1.1.0; size_after = w.1.1.1.1.0; work_after = w.1.1.1.1.1 }
