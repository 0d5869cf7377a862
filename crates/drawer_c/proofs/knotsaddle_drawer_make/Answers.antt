-- `drawer_c::knotsaddle_drawer_make` meets its contract: it is the call over lists behind one test.
use Rattle.mark_numbers.specs.Marks.{marks_in}
use Rattle.drawer_c.proofs.Laws.{make-ill, make-well}
use Rattle.drawer_c.proofs.knotsaddle_drawer_make.Goals as goal

pub returns-then-present-gt1 : goal.returns-then-present-gt1
returns-then-present-gt1 c = let whole = make-ill c.args.drawer.now c.args.file c.args.present c.args.new_bytes.now (marks_in c.args.kinds.now c.args.places.now c.args.companions.now) c.args.work.now c.if-present-gt1.true in record { value = whole.0; board_after = whole.1.0; drawer_after = whole.1.1.0; work_after = whole.1.1.1 }

pub returns : goal.returns
returns c = let whole = make-well c.args.drawer.now c.args.file c.args.present c.args.new_bytes.now (marks_in c.args.kinds.now c.args.places.now c.args.companions.now) c.args.work.now c.if-present-gt1.false (c.make_drawer_lists.ensures.value, (c.make_drawer_lists.ensures.board_after, (c.make_drawer_lists.ensures.d_after, c.make_drawer_lists.ensures.work_after))) in record { value = whole.0; board_after = whole.1.0; drawer_after = whole.1.1.0; work_after = whole.1.1.1 }
