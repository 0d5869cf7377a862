-- `gate_marks::judge_files` meets its contract: a test that fails leaves everything as it is; where none does, the marks
-- are judged.
-- Assumes nothing.
use Rattle.std.proofs.Common.{ap, not}
use borrow.Author.Rules.{rules}
use Rattle.mark_numbers.proofs.Laws.{lists-wrong, lists-right}
use Rattle.gate_marks.proofs.Rooms.{room-enough, starts-are}
use Rattle.gate_marks.proofs.Marks.{ends-too-many, ends-other-lists, ends-too-short, ends-judged}
use Rattle.gate_marks.proofs.judge_files.Goals as goal

pub returns-then-n-gt32 : goal.returns-then-n-gt32
returns-then-n-gt32 c = let whole = ends-too-many _ _ _ _ _ _ _ _ _ _ _ c.if-n-gt32.true in record { value = whole.0; board_after = whole.1.0; work_after = whole.1.1 }

pub returns-then-not-has_lists : goal.returns-then-not-has_lists
returns-then-not-has_lists c = let whole = ends-other-lists _ _ _ _ _ _ _ _ _ _ _ (lists-wrong _ _ c.has_lists.ensures (ap not c.if-not-has_lists.true)) in record { value = whole.0; board_after = whole.1.0; work_after = whole.1.1 }

pub judge_marks-requires : goal.judge_marks-requires
judge_marks-requires c = record { enough_room = (c.if-n-gt32.false, room-enough _ _ _ _ _ _ c.fill_starts.ensures.value c.if-fill_starts.true, search rules, lists-right _ _ c.has_lists.ensures (ap not c.if-not-has_lists.false)); starts = starts-are _ _ _ _ _ (c.fill_starts.ensures.starts c.if-fill_starts.true) }

pub returns-then-fill_starts : goal.returns-then-fill_starts
returns-then-fill_starts c = let whole = ends-judged _ _ _ _ _ _ _ _ _ _ _ c.fill_starts.ensures.value c.if-fill_starts.true c.if-n-gt32.false (lists-right _ _ c.has_lists.ensures (ap not c.if-not-has_lists.false)) _ _ (c.judge_marks.ensures.board_after, c.judge_marks.ensures.work_after) in record { value = whole.0; board_after = whole.1.0; work_after = whole.1.1 }

pub returns : goal.returns
returns c = let whole = ends-too-short _ _ _ _ _ _ _ _ _ _ _ c.fill_starts.ensures.value c.if-fill_starts.false in record { value = whole.0; board_after = whole.1.0; work_after = whole.1.1 }
