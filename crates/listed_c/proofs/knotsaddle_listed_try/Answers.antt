-- `listed_c::knotsaddle_listed_try` meets its contract: with a fault of its own it leaves everything as it is.
use lib.ListN.{length}
use Rattle.mark_numbers.specs.Marks.{marks_in}
use Rattle.schedule.specs.Schedule.{schedule}
use Rattle.gate_flat.specs.Listed.{try_listed}
use Rattle.listed_numbers.specs.Numbers.{places_in}
use Rattle.listed_c.specs.Calls.{file_handed, try_list_called}
use Rattle.listed_c.proofs.Laws.{ill, well}
use Rattle.listed_c.proofs.knotsaddle_listed_try.Goals as goal

pub returns-then-present-gt1 : goal.returns-then-present-gt1
unfolding try_list_called
returns-then-present-gt1 c = let whole = ill c.args.bundle.now c.args.file c.args.present c.args.new_bytes.now c.args.list.now c.args.work.now (marks_in c.args.kinds.now c.args.places.now c.args.companions.now) (try_listed schedule c.args.bundle.now c.args.file (file_handed c.args.present c.args.new_bytes.now) (length c.args.work.now) (places_in c.args.list.now) (marks_in c.args.kinds.now c.args.places.now c.args.companions.now)) c.if-present-gt1.true in record { value = whole.0; board_after = whole.1.0; list_after = whole.1.1.0; entries_after = whole.1.1.1.0; size_after = whole.1.1.1.1.0; work_after = whole.1.1.1.1.1 }

pub returns : goal.returns
unfolding try_list_called
returns c = let whole = well c.args.bundle.now c.args.file c.args.present c.args.new_bytes.now c.args.list.now c.args.work.now (marks_in c.args.kinds.now c.args.places.now c.args.companions.now) (try_listed schedule c.args.bundle.now c.args.file (file_handed c.args.present c.args.new_bytes.now) (length c.args.work.now) (places_in c.args.list.now) (marks_in c.args.kinds.now c.args.places.now c.args.companions.now)) c.if-present-gt1.false c.try_numbers-told.ensures.value c.try_numbers-told.ensures.board_after c.try_numbers-told.ensures.list_after c.try_numbers-told.ensures.work_after in record { value = whole.0; board_after = whole.1.0; list_after = whole.1.1.0; entries_after = whole.1.1.1.0; size_after = whole.1.1.1.1.0; work_after = whole.1.1.1.1.1 }
