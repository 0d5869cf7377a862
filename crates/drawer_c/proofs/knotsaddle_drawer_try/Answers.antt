-- `drawer_c::knotsaddle_drawer_try` meets its contract: it is the call over lists behind one test.
use Rattle.mark_numbers.specs.Marks.{marks_in}
use Rattle.drawer_c.proofs.Laws.{try-ill, try-well}
use Rattle.drawer_c.proofs.knotsaddle_drawer_try.Goals as goal

pub returns-then-present-gt1 : goal.returns-then-present-gt1
returns-then-present-gt1 c = let whole = try-ill c.args.drawer.now c.args.file c.args.present c.args.new_bytes.now (marks_in c.args.kinds.now c.args.places.now c.args.companions.now) c.args.work.now c.if-present-gt1.true in record { value = whole.0; board_after = whole.1.0; work_after = whole.1.1 }

pub returns : goal.returns
returns c = let whole = try-well c.args.drawer.now c.args.file c.args.present c.args.new_bytes.now (marks_in c.args.kinds.now c.args.places.now c.args.companions.now) c.args.work.now c.if-present-gt1.false (c.try_drawer_lists.ensures.value, (c.try_drawer_lists.ensures.board_after, c.try_drawer_lists.ensures.work_after)) in record { value = whole.0; board_after = whole.1.0; work_after = whole.1.1 }
